use Rattle.rule_history.specs.Answered.{tables_of}
use Rattle.trial_feed.specs.Snapshots.{trial_snapshots}
use Rattle.run_trial.proofs.Trying.{summed_text}
use Rattle.run_trial.proofs.summing.sum_up.Goals as goal

pub returns-clause-text : goal.returns-clause-text
returns-clause-text g c = summed_text (tables_of c.args.timetable) (trial_snapshots c.args.seed) c.in_ok-end.end c.summary.result c.in_ok-end.ensures.summed_up c.summary.ensures
