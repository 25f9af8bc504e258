-- Which part of an entity's findings one more snapshot leaves as it is.
use Rattle.std.specs.Prelude.{◌≡◌, ◌<◌, ◌||◌, false, List, [], Option}
use Rattle.feed_values.specs.Schema.{Value}
use Rattle.feed_values.specs.Messages.{entity}
use Rattle.timetable.specs.Timetables.{Tables}
use Rattle.rule_table.specs.declared.key.EntityKey.{EntityKey}
use Rattle.rule_table.specs.Pairs.{PairRow, rows_of}
use Rattle.rule_table.specs.PairAgree.{Agree}
use Rattle.rule_table.specs.Peaks.{PeakMap, SamePeak}
use Rattle.rule_history.specs.History.{Snapshot, Keyed, feed_limit}
use Rattle.rule_history.specs.Changed.{with, in_tested, in_paired, in_peaked}
use Rattle.part_laws.specs.Parts.{FindLocal, FindPaired, FindPeaked, IsThere, local_part, paired_part, peaked_part}

-- An entity that isn't tested, since it was there with the same byte string, keeps what depends on the timetable, its key and itself alone.
abbrev pub LocalStays : FindLocal → Type 0
LocalStays find = (t : Option Tables) (g : List Snapshot) (s : Snapshot) (e : Keyed) → IsThere (with g s) e → in_tested g s e ≡ false → local_part find t g e.0 ≡ local_part find t (with g s) e.0

-- One that is neither tested nor paired keeps what pairing rows tell of it.
abbrev pub PairedStays : FindPaired → Type 0
PairedStays find = (g : List Snapshot) (s : Snapshot) (e : Keyed) → e.0.feed < feed_limit → IsThere (with g s) e → (in_tested g s e || in_paired g s e) ≡ false → paired_part find g e.0 ≡ paired_part find (with g s) e.0

-- So it is for all that finds the same where rows answer alike for an entity, and nothing at an entity without rows.
pub record IsPairing (find : FindPaired) : Type 0 where
  pub agree : (u v : List PairRow) (k : EntityKey) (e : Value entity) → Agree u v k e → find u k e ≡ find v k e
  pub none : (u : List PairRow) (k : EntityKey) (e : Value entity) → rows_of k e ≡ [] → find u k e ≡ []

-- One that is neither tested nor peaked keeps what peaks tell of it.
abbrev pub PeakedStays : FindPeaked → Type 0
PeakedStays find = (g : List Snapshot) (s : Snapshot) (e : Keyed) → IsThere (with g s) e → (in_tested g s e || in_peaked g s e) ≡ false → peaked_part find g e.0 ≡ peaked_part find (with g s) e.0

-- So it is for all that finds the same where the peak of the entity's vehicle is the same.
pub record IsPeaking (find : FindPeaked) : Type 0 where
  pub same : (u v : PeakMap) (k : EntityKey) (e : Value entity) → SamePeak u v k e → find u k e ≡ find v k e
