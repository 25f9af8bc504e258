-- The findings of a snapshot by itself, which is the first of its feed and has no others beside it.
use Rattle.std.specs.Prelude.{◌≡◌, ◌<◌, ℕ, false, List, [], ◌∷◌, ◌++◌, Option, None}
use Rattle.std.specs.List.{flat_map}
use Rattle.feed_values.specs.Schema.{Value}
use Rattle.feed_values.specs.Messages.{feed_header, entity}
use Rattle.feed_values.specs.Snapshot.{header_of, entities_of}
use Rattle.feed_values.specs.declared.cell_value.CellValue.{CellValue}
use Rattle.timetable.specs.Timetables.{Tables}
use Rattle.rule_table.specs.declared.ask.Ask.{Ask}
use Rattle.rule_table.specs.declared.key.EntityKey.{EntityKey}
use Rattle.rule_table.specs.Answers.{Heads}
use Rattle.rule_table.specs.Found.{Found}
use Rattle.std.specs.BTreeSet.{insert_key}
use Rattle.pairing_rules.specs.Rows.{row_cmp}
use Rattle.rule_table.specs.Judged.{update_of}
use Rattle.rule_table.specs.Pairs.{PairRow, rows_of, update_rows, vehicle_rows, vehicle_of}
use Rattle.rule_history.specs.History.{Snapshot, feed_limit}
use Rattle.rule_history.specs.Findings.{findings}
use Rattle.judging.specs.Seats.{Seat, seats}
use Rattle.judging.specs.Whole.{rows_alone, entity_found, header_found, whole_answer}

-- what is known of its feed: nothing stands before its header, and nothing changed
abbrev pub first_heads : Value feed_header → ℕ → Heads
first_heads header moment = record { header = header; previous = None; changed = false; moment = moment }

-- what is answered at an entity of such a feed
abbrev pub first_answer : Option Tables → List PairRow → Value feed_header → ℕ → EntityKey → Value entity → Ask → Option CellValue
first_answer t rows header moment key e = whole_answer t (rows_alone rows) (first_heads header moment) key e

-- the pairing rows of some entities
abbrev pub seat_rows : List Seat → List PairRow
seat_rows es = flat_map (λ e. rows_of e.0 e.1) es

-- those of trip updates alone, and of vehicle positions
abbrev pub update_rows_of : List Seat → List PairRow
update_rows_of es = flat_map (λ e. update_rows e.0 (update_of e.1)) es

abbrev pub vehicle_rows_of : List Seat → List PairRow
vehicle_rows_of es = flat_map (λ e. vehicle_rows e.0 (vehicle_of e.1)) es

-- rows put into an index, one by one
abbrev pub put_rows : List PairRow → List PairRow → List PairRow
put_rows rows [] = rows
put_rows rows (r ∷ rs) = put_rows (insert_key row_cmp rows r) rs

-- the findings on a header and at entities, one entity after the other
abbrev pub found_at_seats : Option Tables → List PairRow → Heads → List Seat → List Found
found_at_seats t rows heads es = flat_map (λ e. entity_found t (rows_alone rows) heads e.0 e.1) es

-- those of a snapshot of a feed: on its header, then at its entities in the order of their keys
abbrev pub snapshot_found : Option Tables → ℕ → ℕ → Value feed_header → List (Value entity) → List Found
snapshot_found t feed moment header es =
    header_found t (rows_alone (seat_rows (seats feed es))) (first_heads header moment) feed ++ found_at_seats t (seat_rows (seats feed es)) (first_heads header moment) (seats feed es)

-- They are the findings after the history of this one snapshot.
abbrev pub OneSnapshot : Type 0
OneSnapshot = (t : Option Tables) (s : Snapshot) → s.feed < feed_limit → findings t (s ∷ []) ≡ snapshot_found t s.feed s.moment (header_of s.bytes) (entities_of s.bytes)
