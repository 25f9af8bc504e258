use Rattle.std.proofs.Common.{◌≡◌, ℕ, List}
use Rattle.std.specs.BTreeMap.{get_by_text}
use Rattle.rule_table.specs.Peaks.{greater}
use Rattle.history_rules.specs.HeldPeaks.{peak_of}
use Rattle.entity_index.specs.Held.{entities_before, held_at, values_of}
use Rattle.vehicle_peaks.proofs.Entities.{rises_along}
use Rattle.vehicle_peaks.proofs.gathering.rising_stamps.Given as goal

abbrev pub invariant-loop-entity : goal.invariant-loop-entity
invariant-loop-entity l = (v : List ℕ) → greater (rises_along (peak_of l.peaks l.feed) v l.entity-iterator) (get_by_text l.stamps v)
    ≡ rises_along (peak_of l.peaks l.feed) v (values_of (entities_before l.feed (held_at l.index l.feed).bytes))
