-- What `trial` makes of its snapshots. (This profile.)
use Rattle.std.specs.Prelude.{codes, ◌≡◌, ℕ, ◌+◌, List, [], ◌∷◌, length, Option, Some}
use Rattle.std.specs.List.{sum_by}
use Rattle.timetable.specs.Timetables.{Tables}
use Rattle.rule_history.specs.History.{Snapshot}
use Rattle.rule_history.specs.Changed.{with}
use Rattle.rule_history.specs.Standing.{Standing}
use Rattle.engine_laws.specs.Computed.{delta_after, standings}
use Rattle.engine_laws.specs.Delta.{Delta}
use Rattle.trial_feed.specs.Files.{trial_contents}
use Rattle.trial_feed.specs.Messages.{feed_of, moment_of}
use Rattle.trial_feed.specs.Snapshots.{trial_snapshots}
use Rattle.snapshot_lines.specs.Lines.{line_of, trial}
use Rattle.run_base.specs.declared.status.Status.TheVariants as answer
use Rattle.run_trial.specs.declared.sums.Sums.{Sums}
use Rattle.run_trial.specs.declared.summing.TrialEnd.{TrialEnd}
use Rattle.engine_laws.specs.Standings.{StandsFor}
use Rattle.run_rows.specs.follow_engine.Engines.{engine_data}
use Rattle.run_base.specs.Counted.{Work}
use Rattle.run_base.specs.Report.{Report}
use Rattle.run_rows.specs.Counted.{history_work}
use Rattle.run_timetable.specs.Timetables.{IsTableFile, with_timetable, work_with_timetable}

-- ---- what changes
-- what each of some snapshots changes, where others came before them
abbrev pub deltas : Option Tables → List Snapshot → List Snapshot → List Delta
deltas t before [] = []
deltas t before (s ∷ ss) = delta_after t before s ∷ deltas t (with before s) ss

-- how many snapshots changed something, and sums over what they changed
abbrev pub sums_over : List Delta → Sums
sums_over ds = record {
  snapshots = length ds;
  opened = sum_by (λ d. length d.opened) ds;
  closed = sum_by (λ d. length d.closed) ds;
  tested = sum_by (λ d. d.tested) ds;
  paired = sum_by (λ d. d.paired) ds;
  bounded = sum_by (λ d. d.bounded) ds;
  peaked = sum_by (λ d. d.peaked) ds;
}

-- those over a history
abbrev pub sums_of : Option Tables → List Snapshot → Sums
sums_of t h = sums_over (deltas t [] h)

-- ---- the report
-- a line with how many findings stand at the end, and the sums
abbrev pub summary_text : List Standing → Sums → List ℕ
summary_text list sums = line_of (trial (record {
  snapshots = sums.snapshots;
  findings = length list;
  opened = sums.opened;
  closed = sums.closed;
  tested = sums.tested;
  paired = sums.paired;
  bounded = sums.bounded;
  peaked = sums.peaked;
}))

abbrev pub history_text : Option Tables → List Snapshot → List ℕ
history_text t h = summary_text (standings t h) (sums_of t h)

abbrev pub history_report : Option Tables → List Snapshot → Report
history_report t h = record { text = history_text t h; errors = []; status = answer.Clean }

-- the folder that its timetable lies in, in memory
abbrev pub trial_folder : List ℕ
trial_folder = codes "trial"

-- a file of the timetable of `trial`, which lies in memory
abbrev pub IsTrialFile : List ℕ → Type 0
IsTrialFile name = IsTableFile (Some trial_folder) name

-- on all 40 snapshots that a seed gives, with the timetable that the folder holds
abbrev pub trial_report : ℕ → Report
trial_report seed = with_timetable (λ t contents. history_report t (trial_snapshots seed)) (Some trial_folder) trial_contents

-- how much it decodes and tests
abbrev pub trial_work : ℕ → Work
trial_work seed = work_with_timetable (λ t contents. history_work t (trial_snapshots seed)) (Some trial_folder) trial_contents

-- ---- in the code, which the report doesn't speak of
-- the sums with those over one snapshot more
abbrev pub added : Sums → Delta → Sums
added sums d = record {
  snapshots = sums.snapshots + 1;
  opened = sums.opened + length d.opened;
  closed = sums.closed + length d.closed;
  tested = sums.tested + d.tested;
  paired = sums.paired + d.paired;
  bounded = sums.bounded + d.bounded;
  peaked = sums.peaked + d.peaked;
}

-- the snapshot of this number, which has these bytes
abbrev pub numbered : ℕ → List ℕ → Snapshot
numbered number bytes = record { feed = feed_of number; moment = moment_of number; bytes = bytes }

-- what is held stands for a history
pub record IsSummedUp (t : Option Tables) (h : List Snapshot) (end : TrialEnd) : Type 0 where
  pub stands_for : StandsFor (engine_data end.engine) t h
  pub sums_are : end.sums ≡ sums_of t h
