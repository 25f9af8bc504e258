use Rattle.std.proofs.Common.{◌∙◌, ◌||◌, List, ap, subst, sym}
use Rattle.std.specs.Prelude.{Some}
use Rattle.feed_values.specs.Snapshot.{timestamp_of}
use Rattle.rule_table.specs.declared.key.EntityKey.{EntityKey}
use Rattle.rule_table.specs.Order.{key_cmp}
use Rattle.rule_table.specs.Rises.{Rises}
use Rattle.held_feeds.specs.part_laws.Bounded.{low_bound}
use Rattle.held_feeds.specs.part_laws.Touched.{is_among}
use Rattle.held_feeds.specs.row_changes.Touched.{is_over}
use Rattle.held_feeds.specs.cached_laws.Keys.{is_over_then}
use Rattle.held_feeds.specs.States.{state_of}
use Rattle.snapshot_steps.specs.Taken.{snapshot_of}
use Rattle.snapshot_steps.proofs.Keys.{kept_test, moved_test, over_then}
use Rattle.snapshot_steps.proofs.touching.touch_bounded.Goals as goal

pub returns-then-keeps_bounds : goal.returns-then-keeps_bounds
returns-then-keeps_bounds c =
    let same = c.in_ok-keys.ensures in
    record {
      before = c.bound_before-before.result;
      now = c.low_bound-now.result;
      before_is = c.bound_before-before.ensures;
      now_is = c.low_bound-now.ensures ∙ ap (λ h. low_bound (timestamp_of h) c.args.taken.now.moment) c.requires.coming.header_is;
      keys_are = record {
        rise = subst (λ (ks : List EntityKey). Rises key_cmp ks) (sym same) c.requires.fresh.rise;
        among = λ key. ap (λ (ks : List EntityKey). is_among ks key) same ∙ c.requires.fresh.among key ∙ kept_test _ _ _ (sym c.keeps_bounds.ensures ∙ c.if-keeps_bounds.true);
      };
    }

pub returns : goal.returns
returns c =
    let state = state_of c.args.held.now in
    let s = snapshot_of c.args.taken.now in
    let rows = c.args.moved.now.rows in
    let before = c.bound_before-before.result in
    let now = c.low_bound-now.result in
    let are = c.requires.moved.replaced.held_are in
    record {
      before = before;
      now = now;
      before_is = c.bound_before-before.ensures;
      now_is = c.low_bound-now.ensures ∙ ap (λ h. low_bound (timestamp_of h) c.args.taken.now.moment) c.requires.coming.header_is;
      keys_are = record {
        rise = c.in_ok-keys-2.ensures.rise;
        among = λ key.
            c.in_ok-keys-2.ensures.among key ∙ ap (λ b. b || is_among c.in_ok-over.over key) (c.requires.fresh.among key)
            ∙ moved_test _ _ _ _ (sym c.keeps_bounds.ensures ∙ c.if-keeps_bounds.false)
            (c.in_ok-over.ensures key ∙ ap (λ b. b || is_over s.feed now rows.stamps key) (over_then state s rows are before key) ∙ ap (λ b. is_over_then state s before key || b) (over_then state s rows are (Some now) key));
      };
    }
