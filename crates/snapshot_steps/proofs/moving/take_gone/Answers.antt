use Rattle.std.proofs.Common.{◌≡◌, ◌∙◌, ◌<◌, ◌++◌, ◌∷◌, [], List, false, ap, sym, subst, map, take, length, get_or, arith, append_assoc}
use Rattle.std.specs.Prelude.{option_map, option_copied}
use Rattle.std.proofs.lemmas.List.{take_more}
use Rattle.feed_values.specs.Views.{entity_value}
use Rattle.rule_table.specs.declared.key.EntityKey.{EntityKey}
use Rattle.held_feeds.specs.entity_index.Incoming.{Incoming}
use Rattle.held_feeds.specs.row_changes.Held.{AreReplaced, entity_at, is_done}
use Rattle.held_feeds.specs.row_changes.Updated.{AreNoted, IsUpdated}
use Rattle.held_feeds.specs.row_changes.ReplacedProofs.{update}
use Rattle.held_feeds.specs.cached_laws.State.{feed_of}
use Rattle.held_feeds.specs.cached_laws.Keys.{lasts_then}
use Rattle.held_feeds.specs.cached_laws.BoundsProofs.{entity_was}
use Rattle.held_feeds.specs.States.{state_of}
use Rattle.held_feeds.specs.touched_entities.OneMoreProofs.{among_drop}
use Rattle.snapshot_steps.specs.Taken.{snapshot_of}
use Rattle.snapshot_steps.proofs.Replaced.{gone, gone_new, gone_once}
use Rattle.snapshot_steps.proofs.moving.take_gone.Goals as goal

pub loop-key-preserved : goal.loop-key-preserved
loop-key-preserved c =
    let state = state_of c.args.held.now in
    let s = snapshot_of c.args.taken.now in
    let old = entity_at (feed_of state) in
    let new = entity_at (lasts_then s (feed_of state)) in
    let came = map (λ (x : Incoming). x.key) c.args.coming.now.entities in
    let goes = c.args.coming.now.changes.gone in
    let all = gone state s c.requires.state c.requires.taken c.requires.feed in
    let are : goes ≡ all = c.requires.coming.changes_are.gone_is in
    let i = c.loop-key.key-index in
    let key = c.key-item.result in
    let listed = c.as_slice-key-items.ensures in
    let l : i < length goes = subst (λ (ks : List EntityKey). i < length ks) listed c.loop-key-test.true in
    let at : key ≡ get_or goes i key = c.key-item.is ∙ ap (λ (ks : List EntityKey). get_or ks i key) listed in
    let m : i < length all = subst (λ (ks : List EntityKey). i < length ks) are l in
    let there : key ≡ get_or all i key = at ∙ ap (λ (ks : List EntityKey). get_or ks i key) are in
    let was = c.entity_of-old.ensures ∙ sym (entity_was state s c.requires.state c.requires.taken c.requires.feed key) in
    let now = sym (gone_new state s c.requires.state c.requires.taken c.requires.feed key (among_drop all i key m there)) in
    let held = c.loop-key.invariant in
    record {
      replaced =
          subst (λ (done : List EntityKey). AreReplaced old new done c.in_ok-rows.rows c.update.new.ids)
          (append_assoc came (take i goes) (key ∷ []) ∙ ap (λ (ks : List EntityKey). came ++ ks) (ap (λ (k : EntityKey). take i goes ++ k ∷ []) at ∙ sym (take_more goes i key l)))
          (update old new (came ++ take i goes) key c.loop-key.rows c.in_ok-rows.rows c.loop-key.ids c.update.new.ids held.replaced
          (subst (λ (ks : List EntityKey). is_done (came ++ take i ks) key ≡ false) (sym are) (gone_once state s c.requires.state c.requires.taken c.requires.feed came c.requires.coming.entities_are.keys_are i key m there))
          (subst (λ o. IsUpdated key o (new key) c.loop-key.rows c.in_ok-rows.rows) was (subst (λ o. IsUpdated key (option_map entity_value (option_copied c.entity_of-old.result)) o c.loop-key.rows c.in_ok-rows.rows) now c.in_ok-rows.ensures.updated))
          (subst (λ o. AreNoted key o (new key) c.loop-key.ids c.update.new.ids) was (subst (λ o. AreNoted key (option_map entity_value (option_copied c.entity_of-old.result)) o c.loop-key.ids c.update.new.ids) now c.in_ok-rows.ensures.noted)));
      within = omega (arith, l);
    }
