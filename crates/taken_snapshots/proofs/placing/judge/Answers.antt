use Rattle.std.proofs.Common.{◌∙◌, ap, sym, subst}
use Rattle.std.specs.Prelude.{Option, ℤ}
use Rattle.feed_values.specs.Snapshot.{timestamp_of}
use Rattle.feed_values.specs.Views.{feed_header_value}
use Rattle.rule_history.specs.Answered.{tables_of}
use Rattle.snapshot_steps.specs.row_changes.AlikeProofs.{alike}
use Rattle.snapshot_steps.specs.cached_laws.State.{feed_of}
use Rattle.snapshot_steps.specs.cached_laws.Keys.{lasts_then}
use Rattle.snapshot_steps.specs.cached_laws.Judged.{ArePassed}
use Rattle.snapshot_steps.specs.cached_laws.Laws.{IsAtHand}
use Rattle.snapshot_steps.specs.cached_laws.PassableProofs.{can_pass}
use Rattle.snapshot_steps.specs.cached_laws.ProvedProofs.{judged_is_change, judged_is_owed}
use Rattle.snapshot_steps.specs.held_feeds.States.{state_of}
use Rattle.snapshot_steps.specs.Taken.{snapshot_of}
use Rattle.taken_snapshots.specs.Judged.{IsJudged}
use Rattle.history_rules.specs.HeldPeaks.{peak_of}
use Rattle.snapshot_steps.proofs.Replaced.{own_then}
use Rattle.taken_snapshots.proofs.placing.judge.Goals as goal

pub judge_placed-requires : goal.judge_placed-requires
judge_placed-requires g c =
    can_pass (tables_of c.args.judging.now.table.now) (state_of c.args.held) (snapshot_of c.args.taken) c.requires.state c.requires.taken c.requires.feed c.requires.cached
    c.args.changed.now.touched.local c.args.changed.now.touched.paired c.args.changed.now.touched.bounded c.args.changed.now.touched.peaked c.requires.changed.touched_are c.in_ok-placed.placed.held.index c.in_ok-placed.ensures.taken_in.entities_are

pub returns-clause-judged : goal.returns-clause-judged
returns-clause-judged g c =
    let t = tables_of c.args.judging.now.table.now in
    let n = c.args.judging.now.applied in
    let state = state_of c.args.held in
    let s = snapshot_of c.args.taken in
    let rows = c.args.changed.now.moved.rows in
    let local = c.args.changed.now.touched.local in
    let paired = c.args.changed.now.touched.paired in
    let bounded = c.args.changed.now.touched.bounded in
    let peaked = c.args.changed.now.touched.peaked in
    let held = state_of c.in_ok-placed.placed.held in
    let last = c.judge_placed.new.placed.held.index in
    let before = c.in_ok-placed.placed.tolds in
    let after = c.judge_placed.new.placed.tolds in
    let at : IsAtHand t n state s rows.pairs local paired bounded peaked held = record {
      is_state = c.requires.state;
      cached = c.requires.cached;
      taken = c.requires.taken;
      fits = c.requires.feed;
      alike = alike (lasts_then s (feed_of state)) (own_then state s c.requires.state c.requires.taken c.requires.feed) rows c.requires.changed.moved_is.replaced.held_are c.stands_in_order.ensures;
      touched = c.requires.changed.touched_are;
      into = c.in_ok-placed.ensures.taken_in;
    } in
    let passed = subst (λ (ts : Option ℤ). ArePassed t n ts c.args.taken.moment rows.pairs (peak_of held.peaks) local paired bounded peaked held.index last before after) (ap timestamp_of (ap feed_header_value c.in_ok-placed.ensures.header ∙ c.requires.coming.header_is)) c.in_ok-judge_placed.ensures.passed in
    let owed = judged_is_owed t n state s rows.pairs local paired bounded peaked _ at last before after passed in
    subst (λ h. IsJudged t n s state c.args.changed.now.touched (state_of h) after) (sym c.in_ok-judge_placed.ensures.rest)
    record {
      is_state = owed.is_state;
      next = owed.next;
      cached = owed.cached;
      change = λ ordered. judged_is_change t n state s rows.pairs local paired bounded peaked _ at last before after passed c.in_ok-placed.ensures.told ordered;
    }
