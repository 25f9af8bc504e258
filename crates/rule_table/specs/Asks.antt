-- Which rules have places, and what they ask there. So the groups of rules are computed from the table.
use Rattle.std.specs.Prelude.{Bool, true, false, List, [], ◌∷◌}
use Rattle.std.specs.List.{list_any}
use Rattle.feed_values.specs.declared.slot.Slot.{Slot}
use Rattle.rule_table.specs.declared.rule.RuleId.{RuleId}
use Rattle.rule_table.specs.Sources.{Source, from_entity, from_timetable, from_rows, from_peaks, from_bounds, source_at}
use Rattle.rule_table.specs.Table.{slots_of, head_slots_of, cites_of}

abbrev pub has_some : List Slot → Bool
has_some [] = false
has_some (s ∷ slots) = true

-- places at an entity
abbrev pub has_places : RuleId → Bool
has_places rule = has_some (slots_of rule)

-- and on a header
abbrev pub has_head_places : RuleId → Bool
has_head_places rule = has_some (head_slots_of rule)

-- whether a rule asks at an entity for what passes
abbrev pub asks : (Source → Bool) → RuleId → Bool
asks test rule = list_any (λ c. test (source_at c)) (cites_of rule)

abbrev pub is_entity : Source → Bool
is_entity from_entity = true
is_entity _ = false

abbrev pub is_timetable : Source → Bool
is_timetable from_timetable = true
is_timetable _ = false

abbrev pub is_rows : Source → Bool
is_rows from_rows = true
is_rows _ = false

abbrev pub is_peaks : Source → Bool
is_peaks from_peaks = true
is_peaks _ = false

abbrev pub is_bounds : Source → Bool
is_bounds from_bounds = true
is_bounds _ = false
