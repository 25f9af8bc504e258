use Rattle.std.proofs.Common.{◌≡◌, ◌∙◌, ◌||◌, ◌&&◌, not, List, ap, sym, subst}
use Rattle.rule_table.specs.Order.{key_cmp, same_key}
use Rattle.rule_table.specs.Rises.{Rises}
use Rattle.std.specs.List.{list_any}
use Rattle.rule_table.specs.declared.key.EntityKey.{EntityKey}
use Rattle.held_feeds.specs.part_laws.Touched.{is_among}
use Rattle.held_feeds.specs.row_changes.PairedProofs.{paired}
use Rattle.held_feeds.specs.cached_laws.State.{feed_of}
use Rattle.rule_history.specs.Answered.{payload_under}
use Rattle.held_feeds.specs.entity_index.Changes.{gone_keys}
use Rattle.held_feeds.specs.entity_index.Held.{entities_before}
use Rattle.vehicle_peaks.specs.Rises.{gives_rise}
use Rattle.held_feeds.specs.cached_laws.Keys.{AreKeys, bytes_before, is_fresh_key, lasts_then}
use Rattle.held_feeds.specs.States.{state_of}
use Rattle.snapshot_steps.specs.Taken.{snapshot_of}
use Rattle.snapshot_steps.proofs.Keys.{any_among}
use Rattle.snapshot_steps.proofs.Raised.{peaked_keys}
use Rattle.snapshot_steps.proofs.Replaced.{own_then}
use Rattle.snapshot_steps.proofs.touching.touch.Goals as goal

fresh_rise : (fresh local : List EntityKey) → fresh ≡ local → Rises key_cmp local → Rises key_cmp fresh
fresh_rise fresh local e h = subst (λ (ks : List EntityKey). Rises key_cmp ks) (sym e) h

pub joined-requires : goal.joined-requires
joined-requires c = fresh_rise c.as_slice-fresh.result.now c.in_ok-local.local c.as_slice-fresh.ensures c.in_ok-local.ensures.rise

pub keys-requires : goal.keys-requires
keys-requires c = fresh_rise c.as_slice-fresh.result.now c.in_ok-local.local c.as_slice-fresh.ensures c.in_ok-local.ensures.rise

pub joined-requires-2 : goal.joined-requires-2
joined-requires-2 c = fresh_rise c.as_slice-fresh.result.now c.in_ok-local.local c.as_slice-fresh.ensures c.in_ok-local.ensures.rise

pub touch_bounded-requires-clause-fresh : goal.touch_bounded-requires-clause-fresh
touch_bounded-requires-clause-fresh c =
    let came = c.as_slice.ensures ∙ c.requires.coming.changes_are.keys_are in
    let test = is_fresh_key (state_of c.args.held.now) (snapshot_of c.args.taken.now) in
    subst (λ (ks : List EntityKey). AreKeys test ks) (sym c.as_slice-fresh.ensures) (subst (λ (ks : List EntityKey). AreKeys (is_among ks) c.in_ok-local.local) came c.in_ok-local.ensures)

pub returns : goal.returns
returns c =
    let state = state_of c.args.held.now in
    let s = snapshot_of c.args.taken.now in
    let came = c.as_slice.ensures ∙ c.requires.coming.changes_are.keys_are in
    let local : AreKeys (is_fresh_key state s) c.in_ok-local.local = subst (λ (ks : List EntityKey). AreKeys (is_among ks) c.in_ok-local.local) came c.in_ok-local.ensures in
    let fresh : (key : EntityKey) → is_among c.as_slice-fresh.result.now key ≡ is_fresh_key state s key = λ key. ap (λ (ks : List EntityKey). is_among ks key) c.as_slice-fresh.ensures ∙ local.among key in
    let moved = c.args.moved.now in
    record {
      local_are = local;
      paired_are = record {
        rise = c.in_ok-paired.ensures.rise;
        among = λ key.
            c.in_ok-paired.ensures.among key ∙ ap (λ b. b || is_among c.in_ok-concerned.concerned key) (fresh key)
            ∙ ap (λ b. is_fresh_key state s key || b) (sym (any_among key c.in_ok-concerned.concerned) ∙ c.in_ok-concerned.ensures.paired key
            ∙ paired (feed_of state) (lasts_then s (feed_of state)) (λ f. (c.requires.state.own f).last_of) (own_then state s c.requires.state c.requires.taken c.requires.feed) moved.rows moved.ids moved.before c.requires.moved.replaced c.requires.moved.kinds_are key);
      };
      bounded_are = c.in_ok-bounded.ensures;
      peaked_are = record {
        rise = c.in_ok-peaked.ensures.rise;
        among = λ key.
            let gives = gives_rise c.args.rises.now (payload_under key (entities_before s.feed (bytes_before state s.feed))) in
            c.in_ok-peaked.ensures.among key ∙ ap (λ b. b || is_among c.in_ok-raised.raised key) (fresh key)
            ∙ peaked_keys state s c.requires.state c.requires.taken c.requires.feed c.args.rises.now c.requires.rises key (is_among c.in_ok-raised.raised key)
            (sym (any_among key c.in_ok-raised.raised) ∙ c.in_ok-raised.ensures.among key
            ∙ ap (λ b. not b && (not (list_any (same_key key) c.as_slice-fresh.result.now) && gives)) (any_among key c.as_slice-gone.result.now)
            ∙ ap (λ (ks : List EntityKey). not (is_among ks key) && (not (list_any (same_key key) c.as_slice-fresh.result.now) && gives)) (c.as_slice-gone.ensures ∙ c.requires.coming.changes_are.gone_is)
            ∙ ap (λ b. not (is_among (gone_keys s.feed (bytes_before state s.feed) s.bytes) key) && (not b && gives)) (any_among key c.as_slice-fresh.result.now ∙ fresh key));
      };
    }
