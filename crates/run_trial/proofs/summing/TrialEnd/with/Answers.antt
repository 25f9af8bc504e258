use Rattle.std.proofs.Common.{subst}
use Rattle.run_rows.specs.follow_engine.Deltas.{delta_value}
use Rattle.rule_history.specs.Changed.{with}
use Rattle.rule_history.specs.History.{Snapshot}
use Rattle.run_base.specs.Counted.{RoseAtMost, RoseBy, counters}
use Rattle.run_rows.specs.Counted.{work_of}
use Rattle.run_trial.specs.declared.summing.TrialEnd.{TrialEnd}
use Rattle.run_trial.specs.Tried.{IsSummedUp}
use Rattle.run_trial.proofs.Trying.{same_snapshot, summed_next}
use Rattle.run_trial.proofs.summing.TrialEnd.with.Goals as goal

pub returns-clause-summed_up : goal.returns-clause-summed_up
returns-clause-summed_up g c = λ t h is.
    let s : Snapshot = record { feed = c.feed_of.result; moment = c.moment_of.result; bytes = c.args.kept } in
    let end : TrialEnd = record { engine = c.in_ok-engine.engine; sums = c.in_ok-sums.sums } in
    subst (λ x. IsSummedUp t (with h x) end) (same_snapshot c.args.number c.feed_of.result c.moment_of.result c.args.kept c.feed_of.ensures c.moment_of.ensures)
    (summed_next t h s c.args.self end (delta_value c.in_ok-engine.delta) is c.in_ok-engine.ensures.stands c.in_ok-engine.ensures.changes c.in_ok-sums.ensures)

pub returns-clause-counted : goal.returns-clause-counted
returns-clause-counted g c = λ t h is.
    subst (λ s. RoseBy (work_of t h s) (counters c.args.decodes.now c.args.tests.now) (counters c.apply.new.decodes c.apply.new.tests))
    (same_snapshot c.args.number c.feed_of.result c.moment_of.result c.args.kept c.feed_of.ensures c.moment_of.ensures)
    (record { decodes = c.in_ok-engine.ensures.decoded t h is.stands_for.matches; tests = c.in_ok-engine.ensures.judged t h is.stands_for.matches })

pub returns-in_err-engine-clause-most : goal.returns-in_err-engine-clause-most
returns-in_err-engine-clause-most g c = λ t h is.
    subst (λ s. RoseAtMost (work_of t h s) (counters c.args.decodes.now c.args.tests.now) (counters c.apply.new.decodes c.apply.new.tests))
    (same_snapshot c.args.number c.feed_of.result c.moment_of.result c.args.kept c.feed_of.ensures c.moment_of.ensures)
    (record { decodes = c.apply.ensures.most_decoded t h is.stands_for.matches; tests = c.apply.ensures.most_judged t h is.stands_for.matches })

pub returns-in_err-sums-clause-most : goal.returns-in_err-sums-clause-most
returns-in_err-sums-clause-most g c = λ t h is.
    subst (λ s. RoseAtMost (work_of t h s) (counters c.args.decodes.now c.args.tests.now) (counters c.apply.new.decodes c.apply.new.tests))
    (same_snapshot c.args.number c.feed_of.result c.moment_of.result c.args.kept c.feed_of.ensures c.moment_of.ensures)
    (record { decodes = c.apply.ensures.most_decoded t h is.stands_for.matches; tests = c.apply.ensures.most_judged t h is.stands_for.matches })

pub returns-clause-most : goal.returns-clause-most
returns-clause-most g c = λ t h is.
    subst (λ s. RoseAtMost (work_of t h s) (counters c.args.decodes.now c.args.tests.now) (counters c.apply.new.decodes c.apply.new.tests))
    (same_snapshot c.args.number c.feed_of.result c.moment_of.result c.args.kept c.feed_of.ensures c.moment_of.ensures)
    (record { decodes = c.apply.ensures.most_decoded t h is.stands_for.matches; tests = c.apply.ensures.most_judged t h is.stands_for.matches })
