use Rattle.std.proofs.Common.{◌≡◌, drop}
use Rattle.std.specs.List.{position_from}
use Rattle.csv.specs.Records.{fields_of}
use Rattle.schedule_rows.specs.Fields.{place_of, is_named}
use Rattle.schedule_rows.proofs.field.find_place.Given as goal

-- no column before has the name
abbrev pub invariant-loop-at : goal.invariant-loop-at
invariant-loop-at l = position_from (is_named l.name) l.at (drop l.at (fields_of l.header)) ≡ place_of l.name (fields_of l.header)
