use Rattle.std.proofs.Common.{◌≡◌, ◌∙◌, ◌<◌, ◌≤◌, ◌++◌, ◌∷◌, [], List, ap, sym, subst, map, take, length, get_or, arith}
use Rattle.std.specs.Prelude.{option_map, option_copied}
use Rattle.std.proofs.lemmas.List.{length-map, take_all, take_more}
use Rattle.feed_values.specs.Views.{entity_value}
use Rattle.rule_table.specs.declared.key.EntityKey.{EntityKey}
use Rattle.engine_laws.proofs.Places.{get_or-map}
use Rattle.held_feeds.specs.entity_index.Incoming.{Incoming}
use Rattle.held_feeds.specs.row_changes.Held.{AreReplaced, entity_at}
use Rattle.held_feeds.specs.row_changes.Updated.{AreNoted, IsUpdated}
use Rattle.held_feeds.specs.row_changes.ReplacedProofs.{update}
use Rattle.held_feeds.specs.cached_laws.State.{feed_of}
use Rattle.held_feeds.specs.cached_laws.Keys.{lasts_then}
use Rattle.held_feeds.specs.cached_laws.BoundsProofs.{entity_was}
use Rattle.held_feeds.specs.States.{state_of}
use Rattle.snapshot_steps.specs.Taken.{snapshot_of}
use Rattle.snapshot_steps.proofs.Replaced.{coming_new, fresh_once}
use Rattle.snapshot_steps.proofs.moving.put_coming.Goals as goal

pub loop-incoming-preserved : goal.loop-incoming-preserved
loop-incoming-preserved c =
    let state = state_of c.args.held.now in
    let s = snapshot_of c.args.taken.now in
    let old = entity_at (feed_of state) in
    let new = entity_at (lasts_then s (feed_of state)) in
    let coming = c.args.coming.now in
    let keys = map (λ (x : Incoming). x.key) coming in
    let i = c.loop-incoming.incoming-index in
    let item = c.incoming-item.result in
    let l : i < length coming = c.loop-incoming-test.true in
    let m : i < length keys = subst (λ n. i < n) (sym (length-map coming (λ (x : Incoming). x.key))) l in
    let at : item.key ≡ get_or keys i item.key = ap (λ (x : Incoming). x.key) c.incoming-item.is ∙ sym (get_or-map (λ (x : Incoming). x.key) coming i item) in
    let was = c.entity_of-old.ensures ∙ sym (entity_was state s c.requires.state c.requires.taken c.requires.feed item.key) in
    let now = sym (coming_new state s c.requires.state c.requires.taken c.requires.feed coming c.requires.coming i item l c.incoming-item.is) in
    let held = c.loop-incoming.invariant in
    record {
      replaced =
          subst (λ (done : List EntityKey). AreReplaced old new done c.in_ok-rows.rows c.update.new.ids)
          (ap (λ (k : EntityKey). take i keys ++ k ∷ []) at ∙ sym (take_more keys i item.key m))
          (update old new (take i keys) item.key c.loop-incoming.rows c.in_ok-rows.rows c.loop-incoming.ids c.update.new.ids held.replaced
          (fresh_once state s c.requires.state c.requires.taken c.requires.feed coming c.requires.coming i item.key m at)
          (subst (λ o. IsUpdated item.key o (new item.key) c.loop-incoming.rows c.in_ok-rows.rows) was (subst (λ o. IsUpdated item.key (option_map entity_value (option_copied c.entity_of-old.result)) o c.loop-incoming.rows c.in_ok-rows.rows) now c.in_ok-rows.ensures.updated))
          (subst (λ o. AreNoted item.key o (new item.key) c.loop-incoming.ids c.update.new.ids) was (subst (λ o. AreNoted item.key (option_map entity_value (option_copied c.entity_of-old.result)) o c.loop-incoming.ids c.update.new.ids) now c.in_ok-rows.ensures.noted)));
      within = omega (arith, l);
    }

pub returns : goal.returns
returns c =
    let state = state_of c.args.held.now in
    let s = snapshot_of c.args.taken.now in
    let keys = map (λ (x : Incoming). x.key) c.args.coming.now in
    subst (λ (done : List EntityKey). AreReplaced (entity_at (feed_of state)) (entity_at (lasts_then s (feed_of state))) done c.loop-incoming.rows c.loop-incoming.ids)
    (take_all c.loop-incoming.incoming-index keys (subst (λ n. n ≤ c.loop-incoming.incoming-index) (sym (length-map c.args.coming.now (λ (x : Incoming). x.key))) (omega (arith, c.loop-incoming-test.false))))
    c.loop-incoming.invariant.replaced
