-- The parts of an entity's findings, and all of them.
use Rattle.std.specs.Prelude.{◌≡◌, ℕ, ℤ, List, [], Option}
use Rattle.feed_values.specs.Schema.{Value}
use Rattle.feed_values.specs.Messages.{entity}
use Rattle.feed_values.specs.Snapshot.{header_of, timestamp_of, entity_of}
use Rattle.timetable.specs.Timetables.{Tables}
use Rattle.rule_table.specs.declared.key.EntityKey.{EntityKey}
use Rattle.rule_table.specs.Answers.{Gathered}
use Rattle.rule_table.specs.Pairs.{PairRow}
use Rattle.rule_table.specs.Peaks.{PeakMap}
use Rattle.rule_history.specs.History.{Snapshot}
use Rattle.rule_history.specs.Standing.{Standing}
use Rattle.engine_laws.specs.HeldFeeds.{entity_found}
use Rattle.engine_laws.specs.Order.{found_cmp, Rises}
use Rattle.engine_laws.specs.Standings.{renewed}
use Rattle.part_laws.specs.standing_walks.Merged.{merged_four}
use Rattle.history_rules.specs.Rules.{bound_rules, peak_rules}
use Rattle.pairing_rules.specs.Pairing.{pairing_rules}
use Rattle.part_laws.specs.FourParts.{StandOf}
use Rattle.entity_parts.specs.Found.{local_found, paired_found, bounded_found, peaked_found, local_rules}

-- Parts renewed, each by what is found of it, and merged, are all findings renewed, whatever else was found before of the rules of each.
abbrev pub PartsAreTheWhole : Type 0
PartsAreTheWhole = (t : Option Tables) (u : Gathered) (s : Snapshot) (key : EntityKey) (p : List ℕ) (n : ℕ) (local paired bounded peaked : List Standing) →
    StandOf local_rules local → StandOf pairing_rules paired → StandOf bound_rules bounded → StandOf peak_rules peaked →
    merged_four (renewed local n (local_found t key (entity_of p))) (renewed paired n (paired_found u.rows key (entity_of p))) (renewed bounded n (bounded_found (timestamp_of (header_of s.bytes)) s.moment key (entity_of p)))
    (renewed peaked n (peaked_found u.peaks key (entity_of p)))
    ≡ renewed (merged_four local paired bounded peaked) n (entity_found t u s (key, p))

-- Each part is in the order of findings.
pub record PartsRise : Type 0 where
  pub local : (t : Option Tables) (key : EntityKey) (e : Value entity) → Rises found_cmp (local_found t key e)
  pub paired : (rows : List PairRow) (key : EntityKey) (e : Value entity) → Rises found_cmp (paired_found rows key e)
  pub bounded : (timestamp : Option ℤ) (moment : ℕ) (key : EntityKey) (e : Value entity) → Rises found_cmp (bounded_found timestamp moment key e)
  pub peaked : (peaks : PeakMap) (key : EntityKey) (e : Value entity) → Rises found_cmp (peaked_found peaks key e)
