-- What asks are answered by what is at hand of a feed: by an entity, by headers, by pairing rows and by peaks.
-- (GTFS Realtime Reference 2.0, "FeedHeader"; which asks there are is this profile's.)
use Rattle.std.specs.Prelude.{ℕ, ℤ, pos, Bool, List, Option, Some, None, option_map}
use Rattle.std.specs.Option.{option_or}
use Rattle.feed_values.specs.Schema.{Value}
use Rattle.feed_values.specs.Messages.{feed_header, entity}
use Rattle.feed_values.specs.Cells.{text_cell, number_cell, entity_cell, header_cell}
use Rattle.feed_values.specs.Views.{natural, truth_number}
use Rattle.feed_values.specs.declared.slot.Slot.{Slot}
use Rattle.feed_values.specs.declared.slot.Slot.TheVariants.{S3}
use Rattle.feed_values.specs.declared.cell_value.CellValue.{CellValue}
use Rattle.feed_values.specs.declared.cell_value.CellValue.TheVariants as value
use Rattle.rule_table.specs.declared.ask.Ask.{Ask}
use Rattle.rule_table.specs.declared.ask.Ask.TheVariants as ask
use Rattle.rule_table.specs.declared.key.EntityKey.{EntityKey}
use Rattle.rule_table.specs.Pairs as pairs
use Rattle.rule_table.specs.Pairs.{PairRow}
use Rattle.rule_table.specs.Peaks.{PeakMap}

-- 1 or 0
abbrev pub yes : Bool → CellValue
yes b = value.Number (truth_number b)

abbrev pub count_cell : ℕ → CellValue
count_cell n = value.Number (pos n)

-- a number that may be missing
abbrev pub natural_cell : Option ℕ → CellValue
natural_cell n = number_cell (natural n)

-- ---- an entity
abbrev pub entity_answer : EntityKey → Value entity → Ask → Option CellValue
entity_answer key e (ask.Cell p) = Some (entity_cell e p.slot p.index)
entity_answer key e ask.Occurrence = Some (count_cell key.occurrence)
entity_answer key e _ = None

-- ---- headers
-- what is known of a feed beside its entities
pub record Heads : Type 0 where
  pub header : Value feed_header
  pub previous : Option (Value feed_header)
  pub changed : Bool
  pub moment : ℕ

abbrev pub previous_cell : Option (Value feed_header) → Slot → CellValue
previous_cell None slot = value.Missing
previous_cell (Some header) slot = header_cell header slot

abbrev pub heads_answer : Heads → Ask → Option CellValue
heads_answer heads (ask.HeadNow slot) = Some (header_cell heads.header slot)
heads_answer heads (ask.HeadBefore slot) = Some (previous_cell heads.previous slot)
heads_answer heads ask.Moment = Some (count_cell heads.moment)
heads_answer heads ask.EntitiesChanged = Some (yes heads.changed)
heads_answer heads _ = None

-- ---- pairing rows
abbrev pub rows_answer : List PairRow → Ask → Option CellValue
rows_answer rows (ask.FirstVehicle kind trip) = Some (text_cell (pairs.first_vehicle rows kind trip))
rows_answer rows (ask.HasPair kind trip vehicle) = Some (yes (pairs.has_pair rows kind trip vehicle))
rows_answer rows (ask.AnyRow kind) = Some (yes (pairs.any_row rows kind))
rows_answer rows (ask.HasTrip kind trip) = Some (yes (pairs.has_trip rows kind trip))
rows_answer rows (ask.HasVehicle kind vehicle) = Some (yes (pairs.has_vehicle rows kind vehicle))
rows_answer rows (ask.FirstId feed vehicle) = Some (text_cell (option_map (λ key. key.id) (pairs.first_key rows feed vehicle)))
rows_answer rows (ask.FirstOccurrence feed vehicle) = Some (natural_cell (option_map (λ key. key.occurrence) (pairs.first_key rows feed vehicle)))
rows_answer rows _ = None

-- ---- peaks
abbrev pub peaks_answer : PeakMap → Ask → Option CellValue
peaks_answer peaks (ask.Peak feed vehicle) = Some (natural_cell (peaks feed vehicle))
peaks_answer peaks _ = None

-- ---- what is gathered of all feeds: their pairing rows and peaks
pub record Gathered : Type 0 where
  pub rows : List PairRow
  pub peaks : PeakMap

abbrev pub gathered_answer : Gathered → Ask → Option CellValue
gathered_answer u a = option_or (rows_answer u.rows a) (peaks_answer u.peaks a)

-- ---- what the rules of one kind are answered
-- by an entity and pairing rows
abbrev pub pair_answer : List PairRow → EntityKey → Value entity → Ask → Option CellValue
pair_answer rows key e a = option_or (entity_answer key e a) (rows_answer rows a)

-- by an entity and peaks
abbrev pub peak_answer : PeakMap → EntityKey → Value entity → Ask → Option CellValue
peak_answer peaks key e a = option_or (entity_answer key e a) (peaks_answer peaks a)

-- by an entity, a header's timestamp and a moment
abbrev pub limit_answer : Option ℤ → ℕ → Ask → Option CellValue
limit_answer timestamp moment (ask.HeadNow S3) = Some (number_cell timestamp)
limit_answer timestamp moment ask.Moment = Some (count_cell moment)
limit_answer timestamp moment _ = None

abbrev pub bound_answer : Option ℤ → ℕ → EntityKey → Value entity → Ask → Option CellValue
bound_answer timestamp moment key e a = option_or (entity_answer key e a) (limit_answer timestamp moment a)
