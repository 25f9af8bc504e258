-- What is known of a snapshot before it takes its place, and how many rules are tested for it.
use Rattle.std.specs.Prelude.{ℕ, ◌+◌, ◌*◌, length}
use Rattle.rule_history.specs.History.{Snapshot}
use Rattle.history_rules.specs.HeldPeaks.{peak_of}
use Rattle.snapshot_steps.specs.entity_index.Held.{entities_before}
use Rattle.snapshot_steps.specs.vehicle_peaks.Rises.{AreRises}
use Rattle.snapshot_steps.specs.cached_laws.State.{State, feed_of}
use Rattle.snapshot_steps.specs.cached_laws.Keys.{AreTouched, bytes_before}
use Rattle.snapshot_steps.specs.Coming.{IsComing}
use Rattle.snapshot_steps.specs.Moved.{IsMoved}
use Rattle.snapshot_steps.specs.declared.touching.Touched.{Touched}
use Rattle.taken_snapshots.specs.declared.preparing.Changed.{Changed}
use Rattle.taken_snapshots.specs.declared.preparing.Ready.{Ready}

-- the rows are those with the snapshot, the peaks are raised by the one before it, and the keys are those that it touches
pub record IsChanged (state : State) (s : Snapshot) (c : Changed) : Type 0 where
  pub moved_is : IsMoved s (feed_of state) c.moved
  pub rises_are : AreRises (entities_before s.feed (bytes_before state s.feed)) (peak_of state.peaks s.feed) c.rises
  pub touched_are : AreTouched state s c.touched.local c.touched.paired c.touched.bounded c.touched.peaked

pub record IsReady (state : State) (s : Snapshot) (r : Ready) : Type 0 where
  pub coming_is : IsComing s state.index r.coming
  pub changed_is : IsChanged state s r.changed

-- ten rules on its header, and at each entity that is concerned those of the part
abbrev pub tests_at : Touched → ℕ
tests_at touched = 10 + (40 * length touched.local + 3 * length touched.paired + 2 * length touched.bounded + length touched.peaked)
