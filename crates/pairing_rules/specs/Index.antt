-- What an index keeps beside its rows: the same rows by the numbers of their ids.
use Rattle.std.specs.Prelude.{◌≡◌, ℕ, Bool, true, ◌&&◌, List, Option, map, filter}
use Rattle.std.specs.List.{AllByRecursion}
use Rattle.std.specs.BTreeSet.{BTreeSet}
use Rattle.rule_table.specs.declared.kind.Kind.{Kind}
use Rattle.rule_table.specs.Pairs.{PairRow, is_of}
use Rattle.pairing_rules.specs.declared.entry.Entry.{Entry}
use Rattle.pairing_rules.specs.Numbers.{Numbers, number_of, is_number, is_named, where_given, where_missing}
use Rattle.pairing_rules.specs.Slots.{seen_at, shown}

-- whether a row belongs at a place, by a number of rows
abbrev pub belongs : (PairRow → Option ℕ) → ℕ → Kind → PairRow → Bool
belongs number n k r = is_number n (number r) && is_of k r

-- each place has the rows that belong there, in order
abbrev pub AreUnder : (PairRow → Option ℕ) → BTreeSet Entry → List PairRow → Type 0
AreUnder number entries rows = (n : ℕ) (k : Kind) → seen_at entries n k ≡ map shown (filter (belongs number n k) rows)

-- the number of the trip, where a vehicle is given, and where none is
abbrev pub paired_number : Numbers → PairRow → Option ℕ
paired_number trips r = where_given r.vehicle (number_of trips r.trip)

abbrev pub unpaired_number : Numbers → PairRow → Option ℕ
unpaired_number trips r = where_missing r.vehicle (number_of trips r.trip)

abbrev pub vehicle_number : Numbers → PairRow → Option ℕ
vehicle_number vehicles r = number_of vehicles r.vehicle

pub record AreIndexed (rows : List PairRow) (trips vehicles : Numbers) (paired unpaired by_vehicle : BTreeSet Entry) : Type 0 where
  pub paired_under : AreUnder (paired_number trips) paired rows
  pub unpaired_under : AreUnder (unpaired_number trips) unpaired rows
  pub vehicles_under : AreUnder (vehicle_number vehicles) by_vehicle rows
  pub trips_named : AllByRecursion (λ r. is_named trips r.trip ≡ true) rows
  pub vehicles_named : AllByRecursion (λ r. is_named vehicles r.vehicle ≡ true) rows
