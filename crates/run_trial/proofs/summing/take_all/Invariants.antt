use Rattle.rule_history.specs.Answered.{tables_of}
use Rattle.run_base.specs.Counted.{counters}
use Rattle.trial_feed.specs.Moving.{IsWithin}
use Rattle.run_trial.proofs.Trying.{IsTrying}
use Rattle.run_trial.proofs.summing.take_all.Given as goal

-- the snapshots so far were taken and counted, and those that are left are what the state makes
abbrev pub invariant-loop-number : goal.invariant-loop-number
invariant-loop-number g l = record {
  trying : IsTrying (tables_of l.fn.timetable) l.fn.seed l.number l.trial l.end (counters l.fn.decodes l.fn.tests) (counters l.decodes l.tests);
  within : IsWithin l.number l.trial;
}
