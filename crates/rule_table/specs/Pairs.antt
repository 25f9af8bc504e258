-- Pairing rows: which trip and which vehicle each trip update and each vehicle position gives.
-- (GTFS Realtime Reference 2.0, "TripDescriptor" and "VehicleDescriptor"; the rows are this profile's.)
use Rattle.std.specs.Prelude.{ℕ, ◌==◌, Bool, true, false, ◌&&◌, ◌||◌, List, [], ◌∷◌, ◌++◌, Option, Some, None, option_map, option_and_then, is_some, bytes_eq}
use Rattle.std.specs.List.{list_any, find}
use Rattle.feed_values.specs.Schema.{Value}
use Rattle.feed_values.specs.Messages.{entity, trip_update, vehicle_position, trip_descriptor, vehicle_descriptor}
use Rattle.rule_table.specs.declared.key.EntityKey.{EntityKey}
use Rattle.rule_table.specs.declared.kind.Kind.{Kind}
use Rattle.rule_table.specs.declared.kind.Kind.TheVariants as kind
use Rattle.rule_table.specs.Kinds.{same_kind}
use Rattle.rule_table.specs.Order.{same_key}
use Rattle.rule_table.specs.Judged.{update_of}

-- a trip update or a vehicle position of an entity, with the ids that it gives
pub record PairRow : Type 0 where
  pub kind : Kind
  pub key : EntityKey
  pub trip : Option (List ℕ)
  pub vehicle : Option (List ℕ)

-- ---- the rows of an entity
abbrev pub vehicle_of : Value entity → Option (Value vehicle_position)
vehicle_of e = e.1.1.1.0

abbrev pub trip_id_in : Value trip_descriptor → Option (List ℕ)
trip_id_in trip = trip.0

abbrev pub vehicle_id_in : Option (Value vehicle_descriptor) → Option (List ℕ)
vehicle_id_in None = None
vehicle_id_in (Some vehicle) = vehicle.0

-- the ids that a message gives
pub record GivenIds : Type 0 where
  pub trip : Option (List ℕ)
  pub vehicle : Option (List ℕ)

abbrev pub of_update : Value trip_update → GivenIds
of_update update = record { trip = trip_id_in update.0; vehicle = vehicle_id_in update.1.1.0 }

abbrev pub of_vehicle : Value vehicle_position → GivenIds
of_vehicle vehicle = record { trip = option_and_then trip_id_in vehicle.0; vehicle = vehicle_id_in vehicle.1.1.1.1.1.1.1.0 }

-- the row of a message of an entity
abbrev pub row_with : Kind → EntityKey → GivenIds → PairRow
row_with kind key ids = record { kind = kind; key = key; trip = ids.trip; vehicle = ids.vehicle }

abbrev pub update_rows : EntityKey → Option (Value trip_update) → List PairRow
update_rows key None = []
update_rows key (Some update) = row_with kind.TripUpdate key (of_update update) ∷ []

abbrev pub vehicle_rows : EntityKey → Option (Value vehicle_position) → List PairRow
vehicle_rows key None = []
vehicle_rows key (Some vehicle) = row_with kind.Vehicle key (of_vehicle vehicle) ∷ []

abbrev pub rows_of : EntityKey → Value entity → List PairRow
rows_of key e = update_rows key (update_of e) ++ vehicle_rows key (vehicle_of e)

-- ---- what rows answer
-- whether an id is given and is the text
abbrev pub is_id : List ℕ → Option (List ℕ) → Bool
is_id id None = false
is_id id (Some given) = bytes_eq given id

abbrev pub is_of : Kind → PairRow → Bool
is_of k r = same_kind r.kind k

abbrev pub any_row : List PairRow → Kind → Bool
any_row rows k = list_any (is_of k) rows

abbrev pub has_trip : List PairRow → Kind → List ℕ → Bool
has_trip rows k trip = list_any (λ r. is_of k r && is_id trip r.trip) rows

abbrev pub has_vehicle : List PairRow → Kind → List ℕ → Bool
has_vehicle rows k vehicle = list_any (λ r. is_of k r && is_id vehicle r.vehicle) rows

abbrev pub has_pair : List PairRow → Kind → List ℕ → List ℕ → Bool
has_pair rows k trip vehicle = list_any (λ r. is_of k r && is_id trip r.trip && is_id vehicle r.vehicle) rows

-- the vehicle id of the first row of a kind, by the keys of the entities, that gives the trip and a vehicle; the rows stand
-- in the order of their keys
abbrev pub first_vehicle : List PairRow → Kind → List ℕ → Option (List ℕ)
first_vehicle rows k trip = option_and_then (λ r. r.vehicle) (find (λ r. is_of k r && is_id trip r.trip && is_some r.vehicle) rows)

-- the first entity of a feed whose vehicle position gives the vehicle
abbrev pub first_key : List PairRow → ℕ → List ℕ → Option EntityKey
first_key rows feed vehicle = option_map (λ r. r.key) (find (λ r. is_of kind.Vehicle r && (r.key.feed == feed) && is_id vehicle r.vehicle) rows)

-- ---- rows that have to do with each other
-- whether two ids are given and are one
abbrev pub shares_id : Option (List ℕ) → Option (List ℕ) → Bool
shares_id None other = false
shares_id (Some id) other = is_id id other

-- whether two rows share a trip id or a vehicle id
abbrev pub shares : PairRow → PairRow → Bool
shares a b = shares_id a.trip b.trip || shares_id a.vehicle b.vehicle

-- whether two ids are the same, or neither is given
abbrev pub same_id : Option (List ℕ) → Option (List ℕ) → Bool
same_id None None = true
same_id (Some a) (Some b) = bytes_eq a b
same_id _ _ = false

abbrev pub same_row : PairRow → PairRow → Bool
same_row a b = same_kind a.kind b.kind && same_key a.key b.key && same_id a.trip b.trip && same_id a.vehicle b.vehicle

abbrev pub has_row : List PairRow → PairRow → Bool
has_row rows r = list_any (same_row r) rows
