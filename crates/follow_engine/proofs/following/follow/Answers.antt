use Rattle.std.proofs.Common.{◌∙◌, ◌+◌, ◌≤◌, ap, sym, subst}
use Rattle.rule_history.specs.Answered.{tables_of}
use Rattle.engine_laws.specs.Delta.{tested_held}
use Rattle.exchanged_timetables.specs.cached_laws.State.{State, feed_of}
use Rattle.exchanged_timetables.specs.cached_laws.Cached.{AreCached}
use Rattle.exchanged_timetables.specs.cached_laws.CountsProofs.{fresh_size}
use Rattle.exchanged_timetables.specs.held_feeds.States.{state_of}
use Rattle.exchanged_timetables.specs.snapshot_steps.Taken.{snapshot_of}
use Rattle.follow_engine.specs.Deltas.{delta_value}
use Rattle.follow_engine.specs.Followed.{IsFollowed, tests_owed}
use Rattle.exchanged_timetables.specs.cached_laws.Keys.{lasts_then}
use Rattle.follow_engine.proofs.Held.{same_entities}
use Rattle.follow_engine.proofs.Owed.{ticks_are}
use Rattle.follow_engine.proofs.following.follow.Goals as goal

pub returns-in_err-coming-clause-most_decoded : goal.returns-in_err-coming-clause-most_decoded
returns-in_err-coming-clause-most_decoded g c =
    let s = snapshot_of c.args.taken in
    let state = state_of c.feeds.inside.held in
    let is = c.feeds.invariant.is_state in
    let size = fresh_size state s is c.requires.feed ∙ ap (λ (x : State). tested_held s (feed_of x)) c.feeds.view_is in
    subst (λ m. c.prepare.new.decodes ≤ c.args.decodes.now + m) size c.prepare.ensures.most

pub returns-in_err-held-clause-most_decoded : goal.returns-in_err-held-clause-most_decoded
returns-in_err-held-clause-most_decoded g c =
    let s = snapshot_of c.args.taken in
    let state = state_of c.feeds.inside.held in
    let is = c.feeds.invariant.is_state in
    let size = fresh_size state s is c.requires.feed ∙ ap (λ (x : State). tested_held s (feed_of x)) c.feeds.view_is in
    subst (λ m. c.prepare.new.decodes ≤ c.args.decodes.now + m) size c.prepare.ensures.most

pub returns-in_err-delta-clause-most_decoded : goal.returns-in_err-delta-clause-most_decoded
returns-in_err-delta-clause-most_decoded g c =
    let s = snapshot_of c.args.taken in
    let state = state_of c.feeds.inside.held in
    let is = c.feeds.invariant.is_state in
    let size = fresh_size state s is c.requires.feed ∙ ap (λ (x : State). tested_held s (feed_of x)) c.feeds.view_is in
    subst (λ m. c.prepare.new.decodes ≤ c.args.decodes.now + m) size c.prepare.ensures.most

pub returns-clause-most_decoded : goal.returns-clause-most_decoded
returns-clause-most_decoded g c =
    let s = snapshot_of c.args.taken in
    let state = state_of c.feeds.inside.held in
    let is = c.feeds.invariant.is_state in
    let size = fresh_size state s is c.requires.feed ∙ ap (λ (x : State). tested_held s (feed_of x)) c.feeds.view_is in
    subst (λ m. c.prepare.new.decodes ≤ c.args.decodes.now + m) size c.prepare.ensures.most

pub returns-in_err-held-clause-most_tested : goal.returns-in_err-held-clause-most_tested
returns-in_err-held-clause-most_tested g c =
    let t = tables_of c.args.judging.now.table.now in
    let n = c.args.judging.now.applied in
    let s = snapshot_of c.args.taken in
    let state = state_of c.feeds.inside.held in
    let is = c.feeds.invariant.is_state in
    let cached = subst (λ (x : State). AreCached t x.index (feed_of x)) (sym c.feeds.view_is) c.requires.cached in
    let touched = c.in_ok-coming.field-0.changed.touched in
    let size = ticks_are state s is c.requires.taken c.requires.feed t n cached touched.local touched.paired touched.bounded touched.peaked c.in_ok-coming.ensures.ready.changed_is.touched_are ∙ ap (λ (x : State). tests_owed t n s (feed_of x)) c.feeds.view_is in
    subst (λ m. c.judge.new.tests ≤ c.args.tests.now + m) size c.judge.ensures.most

pub returns-in_err-delta-clause-most_tested : goal.returns-in_err-delta-clause-most_tested
returns-in_err-delta-clause-most_tested g c =
    let t = tables_of c.args.judging.now.table.now in
    let n = c.args.judging.now.applied in
    let s = snapshot_of c.args.taken in
    let state = state_of c.feeds.inside.held in
    let is = c.feeds.invariant.is_state in
    let cached = subst (λ (x : State). AreCached t x.index (feed_of x)) (sym c.feeds.view_is) c.requires.cached in
    let touched = c.in_ok-coming.field-0.changed.touched in
    let size = ticks_are state s is c.requires.taken c.requires.feed t n cached touched.local touched.paired touched.bounded touched.peaked c.in_ok-coming.ensures.ready.changed_is.touched_are ∙ ap (λ (x : State). tests_owed t n s (feed_of x)) c.feeds.view_is in
    subst (λ m. c.judge.new.tests ≤ c.args.tests.now + m) size c.judge.ensures.most

pub returns-clause-most_tested : goal.returns-clause-most_tested
returns-clause-most_tested g c =
    let t = tables_of c.args.judging.now.table.now in
    let n = c.args.judging.now.applied in
    let s = snapshot_of c.args.taken in
    let state = state_of c.feeds.inside.held in
    let is = c.feeds.invariant.is_state in
    let cached = subst (λ (x : State). AreCached t x.index (feed_of x)) (sym c.feeds.view_is) c.requires.cached in
    let touched = c.in_ok-coming.field-0.changed.touched in
    let size = ticks_are state s is c.requires.taken c.requires.feed t n cached touched.local touched.paired touched.bounded touched.peaked c.in_ok-coming.ensures.ready.changed_is.touched_are ∙ ap (λ (x : State). tests_owed t n s (feed_of x)) c.feeds.view_is in
    subst (λ m. c.judge.new.tests ≤ c.args.tests.now + m) size c.judge.ensures.most

pub returns-clause-decoded : goal.returns-clause-decoded
returns-clause-decoded g c =
    let s = snapshot_of c.args.taken in
    let state = state_of c.feeds.inside.held in
    let is = c.feeds.invariant.is_state in
    let size = fresh_size state s is c.requires.feed ∙ ap (λ (x : State). tested_held s (feed_of x)) c.feeds.view_is in
    c.in_ok-coming.ensures.ticked ∙ ap (λ m. c.args.decodes.now + m) size

pub returns-clause-tested : goal.returns-clause-tested
returns-clause-tested g c =
    let t = tables_of c.args.judging.now.table.now in
    let n = c.args.judging.now.applied in
    let s = snapshot_of c.args.taken in
    let state = state_of c.feeds.inside.held in
    let is = c.feeds.invariant.is_state in
    let cached = subst (λ (x : State). AreCached t x.index (feed_of x)) (sym c.feeds.view_is) c.requires.cached in
    let touched = c.in_ok-coming.field-0.changed.touched in
    let size = ticks_are state s is c.requires.taken c.requires.feed t n cached touched.local touched.paired touched.bounded touched.peaked c.in_ok-coming.ensures.ready.changed_is.touched_are ∙ ap (λ (x : State). tests_owed t n s (feed_of x)) c.feeds.view_is in
    c.in_ok-held.ensures.ticked ∙ ap (λ m. c.args.tests.now + m) size

pub returns-clause-followed : goal.returns-clause-followed
returns-clause-followed g c =
    let judged = c.in_ok-held.ensures.judged in
    let told = c.in_ok-delta.ensures in
    subst (λ (x : State). IsFollowed (tables_of c.args.judging.now.table.now) c.args.judging.now.applied (snapshot_of c.args.taken) x (state_of c.in_ok-held.field-0.held) c.in_ok-delta.delta) c.feeds.view_is
    record {
      was = c.feeds.invariant.is_state;
      is = judged.is_state;
      next = judged.next;
      cached = judged.cached;
      change = judged.change told.ordered (delta_value c.in_ok-delta.delta) told.snapshot (told.entities ∙ c.len-entities.ensures) told.opened told.closed told.tested told.paired told.bounded told.peaked;
    }

pub invariant_of-result : goal.invariant_of-result
invariant_of-result g c =
    let s = snapshot_of c.args.taken in
    let old = feed_of (state_of c.feeds.inside.held) in
    let new = feed_of (state_of c.in_ok-held.field-0.held) in
    let judged = c.in_ok-held.ensures.judged in
    record { is_state = judged.is_state; rows_are = same_entities (lasts_then s old) new judged.next.last c.in_ok-coming.field-0.changed.moved.rows c.in_ok-coming.ensures.ready.changed_is.moved_is.replaced.held_are }
