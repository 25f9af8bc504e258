use Rattle.std.proofs.Common.{◌≡◌, ◌∙◌, None, sym, subst, arith}
use Rattle.feed_codec.specs.Refusal.{refusal}
use Rattle.rule_history.specs.Answered.{tables_of}
use Rattle.rule_history.specs.Changed.{with}
use Rattle.run_base.specs.Counted.{RoseAtMost, RoseBy, counters}
use Rattle.run_rows.specs.Counted.{work_of}
use Rattle.trial_feed.proofs.Taken.{snapshots_are_taken}
use Rattle.run_trial.specs.Tried.{IsSummedUp, numbered}
use Rattle.run_trial.proofs.Trying.{trying_counted, trying_most, trying_most_next, trying_all, trying_next, trying_none}
use Rattle.run_trial.proofs.summing.take_all.Goals as goal

pub loop-number-init : goal.loop-number-init
loop-number-init g c = record {
  trying = trying_none (tables_of c.args.timetable) c.args.seed c.in_ok-trial.trial (record { engine = c.new-2.result; sums = c.none.result }) (counters c.args.decodes.now c.args.tests.now) c.new-2.ensures c.in_ok-trial.ensures.start c.none.ensures;
  within = c.in_ok-trial.ensures.within;
}

-- no snapshot of the trial is refused
pub kept_in_pieces-requires : goal.kept_in_pieces-requires
kept_in_pieces-requires g c = record {
  accepted = subst (λ bytes. refusal bytes ≡ None) (sym (c.deref.ensures.value ∙ c.in_ok-bytes.ensures)) (snapshots_are_taken.each c.loop-number.number c.advance.new.self c.loop-number-test.true c.advance.ensures.within);
}

-- one snapshot more
pub loop-number-preserved : goal.loop-number-preserved
loop-number-preserved g c =
    let t = tables_of c.args.timetable in
    let number = c.loop-number.number in
    let held = c.loop-number.invariant.trying in
    let bytes = c.in_ok-kept.ensures ∙ c.deref.ensures.value ∙ c.in_ok-bytes.ensures in
    let now = counters c.loop-number.decodes c.loop-number.tests in
    let new = counters c.with.new.decodes c.with.new.tests in
    record {
      trying = trying_next t c.args.seed number c.loop-number.trial c.loop-number.end (counters c.args.decodes.now c.args.tests.now) now held c.advance.new.self c.loop-number-test.true c.advance.ensures.next c.in_ok-end.end new
          (subst (λ bytes. IsSummedUp t (with held.history (numbered number bytes)) c.in_ok-end.end) bytes (c.in_ok-end.ensures.summed_up t held.history held.summed_up))
          (subst (λ bytes. RoseBy (work_of t held.history (numbered number bytes)) now new) bytes (c.in_ok-end.ensures.counted t held.history held.summed_up));
      within = c.advance.ensures.within;
    }

-- no memory was found for the snapshot
pub returns-in_err-bytes-clause-most : goal.returns-in_err-bytes-clause-most
returns-in_err-bytes-clause-most g c = trying_most _ _ _ _ _ _ _ c.loop-number.invariant.trying

pub returns-in_err-kept-clause-most : goal.returns-in_err-kept-clause-most
returns-in_err-kept-clause-most g c = trying_most _ _ _ _ _ _ _ c.loop-number.invariant.trying

-- or while it was taken
pub returns-in_err-end-clause-most : goal.returns-in_err-end-clause-most
returns-in_err-end-clause-most g c =
    let t = tables_of c.args.timetable in
    let number = c.loop-number.number in
    let held = c.loop-number.invariant.trying in
    let now = counters c.loop-number.decodes c.loop-number.tests in
    let new = counters c.with.new.decodes c.with.new.tests in
    trying_most_next t c.args.seed number c.loop-number.trial c.loop-number.end (counters c.args.decodes.now c.args.tests.now) now held c.advance.new.self c.loop-number-test.true c.advance.ensures.next new
    (subst (λ bytes. RoseAtMost (work_of t held.history (numbered number bytes)) now new) (c.in_ok-kept.ensures ∙ c.deref.ensures.value ∙ c.in_ok-bytes.ensures) (c.with.ensures.most t held.history held.summed_up))

-- all were taken
pub returns-clause-summed_up : goal.returns-clause-summed_up
returns-clause-summed_up g c = trying_all _ _ _ _ _ _ _ c.loop-number.invariant.trying (omega (arith, c.loop-number-test.false))

pub returns-clause-counted : goal.returns-clause-counted
returns-clause-counted g c = trying_counted _ _ _ _ _ _ _ c.loop-number.invariant.trying (omega (arith, c.loop-number-test.false))

pub returns-clause-most : goal.returns-clause-most
returns-clause-most g c = trying_most _ _ _ _ _ _ _ c.loop-number.invariant.trying
