-- When two timetables agree for an entity: in both, the ids that it gives say the same.
use Rattle.std.specs.Prelude.{◌≡◌, ◌↔◌, ℕ, Bool, true, false, ◌&&◌, List, Option, Some, None, option_map, is_some, slice_get}
use Rattle.std.specs.List.{AllZip, list_all}
use Rattle.std.specs.FinMap.{entries, get}
use Rattle.feed_values.specs.Schema.{Value}
use Rattle.feed_values.specs.Messages.{entity}
use Rattle.timetable.specs.Maps.{Text}
use Rattle.timetable.specs.Timetables.{Tables, kind_in, trip_times}
use Rattle.timetable.specs.declared.StopTime.{StopTime}
use Rattle.timetable_agree.specs.Alike.{same_trip, same_route, same_stop, same_agency, frequencies_in, trip_in}
use Rattle.timetable_agree.specs.Named.{Naming, namings}

-- a test of an id, where it is given
abbrev pub if_given : (Text → Bool) → Option Text → Bool
if_given test None = true
if_given test (Some id) = test id

abbrev pub same_named_trip : Tables → Tables → Naming → Bool
same_named_trip a b n = if_given (same_trip a b) n.trip

-- the ids but that of a trip
abbrev pub same_others : Tables → Tables → Naming → Bool
same_others a b n =
    if_given (same_route a b) n.trip_route && if_given (same_route a b) n.route
    && if_given (same_stop a b) n.stop && if_given (same_stop a b) n.assigned_stop
    && if_given (same_agency a b) n.agency

abbrev pub tables_agree : Tables → Tables → Value entity → Bool
tables_agree a b e = list_all (same_named_trip a b) (namings e) && list_all (same_others a b) (namings e)

-- absent timetables agree, and an absent one with none that is there
abbrev pub agree : Option Tables → Option Tables → Value entity → Bool
agree None None e = true
agree (Some a) (Some b) e = tables_agree a b e
agree _ _ e = false

-- ---- the same, read as sets
-- some part of the entity gives the id in this field
abbrev pub Gives : Value entity → (Naming → Option Text) → Text → Type 0
Gives e field id = (i : ℕ) × (n : Naming) × (slice_get (namings e) i ≡ Some n) × (field n ≡ Some id)

-- two stop times, beside their sequences, have one sequence, one stop id, one arrival and one departure
pub record SameEntry (olds news : List Text) (x y : ℕ × StopTime) : Type 0 where
  pub sequence : x.0 ≡ y.0
  pub stop : (id : Text) × (slice_get olds x.1.stop ≡ Some id) × (slice_get news y.1.stop ≡ Some id)
  pub arrival : x.1.arrival ≡ y.1.arrival
  pub departure : x.1.departure ≡ y.1.departure

-- what only a trip of trips.txt has
pub record SameCourse (a b : Tables) (id : Text) : Type 0 where
  pub frequencies : frequencies_in a id ≡ frequencies_in b id
  pub times : AllZip (SameEntry a.stop_times.stops b.stop_times.stops) (entries (trip_times a.stop_times id)) (entries (trip_times b.stop_times id))

-- a trip is known or unknown alike, with one route, one direction and one course
pub record SameTrip (a b : Tables) (id : Text) : Type 0 where
  pub route : option_map (λ row. row.route) (trip_in a id) ≡ option_map (λ row. row.route) (trip_in b id)
  pub direction : option_map (λ row. row.direction) (trip_in a id) ≡ option_map (λ row. row.direction) (trip_in b id)
  pub course : is_some (trip_in a id) ≡ true → SameCourse a b id

-- each id that the entity gives says the same in both
pub record Agree (a b : Tables) (e : Value entity) : Type 0 where
  pub trips : (id : Text) → Gives e (λ n. n.trip) id → SameTrip a b id
  pub trip_routes : (id : Text) → Gives e (λ n. n.trip_route) id → is_some (get a.routes id) ≡ is_some (get b.routes id)
  pub routes : (id : Text) → Gives e (λ n. n.route) id → is_some (get a.routes id) ≡ is_some (get b.routes id)
  pub stops : (id : Text) → Gives e (λ n. n.stop) id → kind_in a.stops id ≡ kind_in b.stops id
  pub assigned_stops : (id : Text) → Gives e (λ n. n.assigned_stop) id → kind_in a.stops id ≡ kind_in b.stops id
  pub agencies : (id : Text) → Gives e (λ n. n.agency) id → is_some (get a.agencies id) ≡ is_some (get b.agencies id)

abbrev pub AgreeReadsAsSets : Type 0
AgreeReadsAsSets = (a b : Tables) (e : Value entity) → (tables_agree a b e ≡ true) ↔ Agree a b e
