-- Pairing rows of borrowed ids, and what is put in of each.
use Rattle.std.specs.Prelude.{◌≡◌, ℕ, Bool, true, List, [], ◌∷◌, Option, Some, None, cond, map, option_copied}
use Rattle.std.specs.List.{flat_map, list_any}
use Rattle.std.specs.Ordering.{nat_cmp, ordering_then}
use Rattle.std.specs.Cmp.Lexicographic.{slice_cmp}
use Rattle.std.specs.declared.cmp.Ordering.{Ordering}
use denote.Ref.{Bor}
use Rattle.rule_table.specs.declared.key.EntityKey.{EntityKey}
use Rattle.rule_table.specs.declared.kind.Kind.{Kind}
use Rattle.rule_table.specs.declared.kind.Kind.TheVariants as kind
use Rattle.rule_table.specs.Kinds.{same_kind}
use Rattle.rule_table.specs.Pairs.{PairRow}
use Rattle.sorted_rows.specs.declared.row.Row.{Row}
use Rattle.sorted_rows.specs.declared.kind_rows.KindRows.{KindRows}
use Rattle.sorted_rows.specs.declared.sorted_rows.SortedRows.{SortedRows}
use Rattle.sorted_rows.specs.ByKey.{Sorts}

-- a borrowed id
abbrev pub Id : Type 0
Id = Bor (List ℕ)

abbrev pub row_value : Row → PairRow
row_value r = record { kind = r.kind; key = r.key.now; trip = option_copied r.trip; vehicle = option_copied r.vehicle }

abbrev pub id_cmp : Id → Id → Ordering
id_cmp a b = slice_cmp nat_cmp a.now b.now

abbrev pub pair_cmp : Id × Id → Id × Id → Ordering
pair_cmp a b = ordering_then (id_cmp a.0 b.0) (id_cmp a.1 b.1)

abbrev pub holder_cmp : Id × ℕ → Id × ℕ → Ordering
holder_cmp a b = ordering_then (id_cmp a.0 b.0) (nat_cmp a.1 b.1)

-- ---- what is put in of a row
abbrev pub vehicle_with : Option Id → Option Id → List (Id × Id)
vehicle_with (Some trip) (Some vehicle) = (trip, vehicle) ∷ []
vehicle_with _ _ = []

abbrev pub trip_alone : Option Id → Option Id → List (Id × Bool)
trip_alone (Some trip) None = (trip, true) ∷ []
trip_alone _ _ = []

abbrev pub pair_of : Option Id → Option Id → List ((Id × Id) × Bool)
pair_of (Some trip) (Some vehicle) = ((trip, vehicle), true) ∷ []
pair_of _ _ = []

abbrev pub holder_of : Bor EntityKey → Option Id → List ((Id × ℕ) × Bor EntityKey)
holder_of key None = []
holder_of key (Some vehicle) = ((vehicle, key.now.feed), key) ∷ []

-- of the rows of one kind
abbrev pub of_kind : {E : Type 0} → Kind → (Row → List E) → List Row → List E
of_kind k entries rs = flat_map (λ r. cond (same_kind r.kind k) (entries r) []) rs

-- the rows of a kind as they were put in
pub record HoldsKind (k : Kind) (l : KindRows) (rs : List Row) : Type 0 where
  pub any : l.any ≡ list_any (λ r. same_kind r.kind k) rs
  pub vehicles : l.vehicles.items ≡ of_kind k (λ r. vehicle_with r.trip r.vehicle) rs
  pub lone_trips : l.lone_trips.items ≡ of_kind k (λ r. trip_alone r.trip r.vehicle) rs
  pub pairs : l.pairs.items ≡ of_kind k (λ r. pair_of r.trip r.vehicle) rs
  pub keys : l.keys.items ≡ of_kind k (λ r. holder_of r.key r.vehicle) rs

-- and in order
pub record SortsKind (k : Kind) (l : KindRows) (rs : List Row) : Type 0 where
  pub any : l.any ≡ list_any (λ r. same_kind r.kind k) rs
  pub vehicles : Sorts id_cmp (of_kind k (λ r. vehicle_with r.trip r.vehicle) rs) l.vehicles.items
  pub lone_trips : Sorts id_cmp (of_kind k (λ r. trip_alone r.trip r.vehicle) rs) l.lone_trips.items
  pub pairs : Sorts pair_cmp (of_kind k (λ r. pair_of r.trip r.vehicle) rs) l.pairs.items
  pub keys : Sorts holder_cmp (of_kind k (λ r. holder_of r.key r.vehicle) rs) l.keys.items

-- ---- of both kinds
abbrev pub kind_part : Kind → SortedRows → KindRows
kind_part kind.TripUpdate s = s.updates
kind_part kind.Vehicle s = s.vehicles

-- these rows were put in, in this order
pub record Holds (s : SortedRows) (rows : List PairRow) : Type 0 where
  pub from : List Row
  pub are : map row_value from ≡ rows
  pub each : (k : Kind) → HoldsKind k (kind_part k s) from

-- and sorted then
pub record AnswersBy (s : SortedRows) (rows : List PairRow) : Type 0 where
  pub from : List Row
  pub are : map row_value from ≡ rows
  pub each : (k : Kind) → SortsKind k (kind_part k s) from
