-- The list and the delta of a history, computed. The laws say that they are what the relations of Standing, Standings and Delta
-- ask for, and nothing else is.
use Rattle.std.specs.Prelude.{◌≡◌, ℕ, zero, suc, ◌<◌, Bool, List, [], length, map, Option, if◌then◌else◌}
use Rattle.feed_values.specs.Snapshot.{entity_payloads}
use Rattle.timetable.specs.Timetables.{Tables}
use Rattle.rule_table.specs.Found.{Found}
use Rattle.rule_history.specs.History.{Snapshot, feed_limit}
use Rattle.rule_history.specs.Findings.{findings}
use Rattle.rule_history.specs.Changed.{with, tested, paired, bounded, peaked}
use Rattle.rule_history.specs.Standing.{Standing, stands_after, opened, closed}
use Rattle.engine_laws.specs.Delta.{Delta, IsDelta}
use Rattle.engine_laws.specs.Standings.{IsListOf}

-- the number of the snapshot behind the last prefix, of fewer than n snapshots, where a test is false
abbrev pub since_of : (ℕ → Bool) → ℕ → ℕ
since_of after zero = zero
since_of after (suc n) = if after n then since_of after n else n

-- a finding after a history, since when its rule stands at its place
abbrev pub standing : Option Tables → List Snapshot → Found → Standing
standing t h f = record { finding = f; since = since_of (stands_after t h f) (length h) }

abbrev pub standings : Option Tables → List Snapshot → List Standing
standings t h = map (standing t h) (findings t h)

-- what a snapshot changes after a history
abbrev pub delta_after : Option Tables → List Snapshot → Snapshot → Delta
delta_after t g s = record {
  snapshot = length g;
  entities = length (entity_payloads s.bytes);
  opened = opened (findings t g) (standings t (with g s));
  closed = closed (findings t g) (findings t (with g s));
  tested = tested g s;
  paired = paired g s;
  bounded = bounded t g s;
  peaked = peaked g s;
}

-- ---- laws
-- The computed list is one of the history, and it is the only one.
pub record ListIsComputed : Type 0 where
  pub is_list : (t : Option Tables) (h : List Snapshot) → IsListOf t h (standings t h)
  pub is_only : (t : Option Tables) (h : List Snapshot) (list : List Standing) → IsListOf t h list → list ≡ standings t h

-- So is the computed delta.
abbrev pub DeltaIsComputed : Type 0
DeltaIsComputed = (t : Option Tables) (g : List Snapshot) (s : Snapshot) (list : List Standing) (d : Delta) → IsListOf t (with g s) list → IsDelta t g s list d → d ≡ delta_after t g s

-- All entities of the first snapshot of a history are counted.
pub record FirstIsNew : Type 0 where
  pub all_tested : (s : Snapshot) → s.feed < feed_limit → tested [] s ≡ length (entity_payloads s.bytes)
  pub all_paired : (s : Snapshot) → s.feed < feed_limit → paired [] s ≡ length (entity_payloads s.bytes)
  pub all_bounded : (t : Option Tables) (s : Snapshot) → s.feed < feed_limit → bounded t [] s ≡ length (entity_payloads s.bytes)
  pub all_peaked : (s : Snapshot) → s.feed < feed_limit → peaked [] s ≡ length (entity_payloads s.bytes)
