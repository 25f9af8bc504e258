-- From what the facts of a rule come: from its entity, the timetable, pairing rows, peaks, the two bounds of a timestamp, or from what
-- else is known of headers.
use Rattle.std.specs.Prelude.{◌≡◌, ℕ, Bool, true, false, List, [], ◌∷◌, Option, Some, None, option_map, refl}
use Rattle.std.specs.List.{list_all}
use Rattle.std.proofs.Common.{sym, ap, ◌∙◌}
use Rattle.std.proofs.lemmas.Option.{same_Some}
use Rattle.feed_values.specs.declared.slot.Slot.{Slot}
use Rattle.feed_values.specs.declared.slot.Slot.TheVariants.{S3, S21, S38, S52, S58}
use Rattle.feed_values.specs.declared.path.Path.{Path}
use Rattle.feed_values.specs.declared.cell_value.CellValue.{CellValue}
use Rattle.rule_table.specs.declared.rule.RuleId.{RuleId}
use Rattle.rule_table.specs.declared.ask.Ask.{Ask}
use Rattle.rule_table.specs.declared.ask.Ask.TheVariants as ask
use Rattle.rule_table.specs.declared.row.Cite.{Cite}
use Rattle.rule_table.specs.declared.row.Cite.TheVariants as cite
use Rattle.rule_table.specs.declared.key.EntityKey.{EntityKey}
use Rattle.rule_table.specs.declared.place.Place.TheVariants as place
use Rattle.rule_table.specs.Asked.{ask_at, with_both, event_ask, id_ask, other_kind, text_at, sequence_at}
use Rattle.rule_table.specs.Table.{slots_of, cites_of}

pub data Source : Type 0 where
  from_entity : Source
  from_timetable : Source
  from_rows : Source
  from_peaks : Source
  from_bounds : Source
  from_headers : Source

abbrev pub source_of : Ask → Source
source_of (ask.Cell p) = from_entity
source_of ask.Occurrence = from_entity
source_of (ask.HeadNow S3) = from_bounds
source_of (ask.HeadNow _) = from_headers
source_of (ask.HeadBefore s) = from_headers
source_of ask.Moment = from_bounds
source_of ask.EntitiesChanged = from_headers
source_of (ask.TripKnown trip) = from_timetable
source_of (ask.RouteKnown route) = from_timetable
source_of (ask.AgencyKnown agency) = from_timetable
source_of (ask.StopKind stop) = from_timetable
source_of (ask.TripRoute trip) = from_timetable
source_of (ask.TripDirection trip) = from_timetable
source_of (ask.TripExact trip) = from_timetable
source_of (ask.OnGrid trip time) = from_timetable
source_of (ask.VisitsTwice trip) = from_timetable
source_of (ask.FirstArrival trip) = from_timetable
source_of (ask.StopAt trip n) = from_timetable
source_of (ask.ArrivalAt trip n) = from_timetable
source_of (ask.DepartureAt trip n) = from_timetable
source_of (ask.FirstVehicle kind trip) = from_rows
source_of (ask.HasPair kind trip vehicle) = from_rows
source_of (ask.AnyRow kind) = from_rows
source_of (ask.HasTrip kind trip) = from_rows
source_of (ask.HasVehicle kind vehicle) = from_rows
source_of (ask.FirstId feed vehicle) = from_rows
source_of (ask.FirstOccurrence feed vehicle) = from_rows
source_of (ask.Peak feed vehicle) = from_peaks

-- what an entry of a row asks at an entity
abbrev pub source_at : Cite → Source
source_at (cite.HeadNow S3) = from_bounds
source_at (cite.HeadNow _) = from_headers
source_at (cite.HeadBefore s) = from_headers
source_at cite.Moment = from_bounds
source_at cite.EntitiesChanged = from_headers
source_at (cite.TripKnown k) = from_timetable
source_at (cite.RouteKnown k) = from_timetable
source_at (cite.AgencyKnown k) = from_timetable
source_at (cite.StopKind k) = from_timetable
source_at (cite.TripRoute k) = from_timetable
source_at (cite.TripDirection k) = from_timetable
source_at (cite.TripExact k) = from_timetable
source_at (cite.OnGrid j k) = from_timetable
source_at (cite.VisitsTwice k) = from_timetable
source_at (cite.FirstArrival k) = from_timetable
source_at (cite.StopAt j k) = from_timetable
source_at (cite.EventAt j k) = from_timetable
source_at (cite.FirstVehicle k) = from_rows
source_at (cite.HasPair j k) = from_rows
source_at cite.AnyRow = from_rows
source_at (cite.HasId k) = from_rows
source_at (cite.FirstId k) = from_rows
source_at (cite.FirstOccurrence k) = from_rows
source_at (cite.Peak k) = from_peaks
source_at _ = from_entity

-- whether all facts of a rule at an entity come from what passes
abbrev pub comes_from : (Source → Bool) → RuleId → Bool
comes_from test rule = list_all (λ c. test (source_at c)) (cites_of rule)

-- where there are places, what is said of them
abbrev pub asked_at : Bool → List Slot → Bool
asked_at b [] = true
asked_at b (s ∷ slots) = b

-- the same of a rule that has places at an entity; one without has no facts there
abbrev pub comes_to : (Source → Bool) → RuleId → Bool
comes_to test rule = asked_at (comes_from test rule) (slots_of rule)

-- what the rules of one entity and the timetable are answered from
abbrev pub is_local : Source → Bool
is_local from_entity = true
is_local from_timetable = true
is_local _ = false

abbrev pub is_paired : Source → Bool
is_paired from_entity = true
is_paired from_rows = true
is_paired _ = false

abbrev pub is_peaked : Source → Bool
is_peaked from_entity = true
is_peaked from_peaks = true
is_peaked _ = false

abbrev pub is_bounded : Source → Bool
is_bounded from_entity = true
is_bounded from_bounds = true
is_bounded _ = false

-- on headers, these and what else is known of them
abbrev pub is_headed : Source → Bool
is_headed from_bounds = true
is_headed from_headers = true
is_headed _ = false

-- ---- what an entry asks comes from where the entry says
asked_is : (a q : Ask) (s : Source) → source_of a ≡ s → Some a ≡ Some q → source_of q ≡ s
asked_is a q s e h = ap source_of (sym (same_Some a q h)) ∙ e

asked_one : {A : Type 0} (make : A → Ask) (s : Source) → ((x : A) → source_of (make x) ≡ s) → (o : Option A) (q : Ask) → option_map make o ≡ Some q → source_of q ≡ s
asked_one make s w None q h = cc
asked_one make s w (Some x) q h = asked_is (make x) q s (w x) h

asked_two : {A B : Type 0} (make : A → B → Ask) (s : Source) → ((x : A) (y : B) → source_of (make x y) ≡ s) → (o : Option A) (p : Option B) (q : Ask) → with_both make o p ≡ Some q → source_of q ≡ s
asked_two make s w None p q h = cc
asked_two make s w (Some x) None q h = cc
asked_two make s w (Some x) (Some y) q h = asked_is (make x y) q s (w x y) h

event_source : (s : Slot) (trip : List ℕ) (n : ℕ) → source_of (event_ask s trip n) ≡ from_timetable
event_source S38 trip n = refl
event_source _ trip n = refl

id_source : (s : Slot) (id : List ℕ) → source_of (id_ask s id) ≡ from_rows
id_source S21 id = refl
id_source S52 id = refl
id_source S58 id = refl
id_source _ id = refl

pub asked_from : (key : EntityKey) (p : Path) (vs : List CellValue) (c : Cite) (q : Ask) → ask_at (place.Entity key p) vs c ≡ Some q → source_of q ≡ source_at c
asked_from key p vs cite.Place q h = asked_is _ q from_entity refl h
asked_from key p vs (cite.Cell s) q h = asked_is _ q from_entity refl h
asked_from key p vs (cite.Before s) q h = asked_is _ q from_entity refl h
asked_from key p vs cite.TripId q h = asked_is _ q from_entity refl h
asked_from key p vs cite.StartTime q h = asked_is _ q from_entity refl h
asked_from key p vs cite.StartDate q h = asked_is _ q from_entity refl h
asked_from key p vs cite.Relationship q h = asked_is _ q from_entity refl h
asked_from key p vs cite.Delay q h = asked_is _ q from_entity refl h
asked_from key p vs cite.Time q h = asked_is _ q from_entity refl h
asked_from key p vs cite.Holder q h = asked_is _ q from_entity refl h
asked_from key p vs (cite.HeadNow s) q h = asked_is (ask.HeadNow s) q (source_at (cite.HeadNow s)) (head_source s) h
  where
    head_source : (s : Slot) → source_of (ask.HeadNow s) ≡ source_at (cite.HeadNow s)
    head_source S3 = refl
    head_source _ = refl
asked_from key p vs (cite.HeadBefore s) q h = asked_is _ q from_headers refl h
asked_from key p vs cite.Moment q h = asked_is _ q from_bounds refl h
asked_from key p vs cite.Occurrence q h = asked_is _ q from_entity refl h
asked_from key p vs cite.EntitiesChanged q h = asked_is _ q from_headers refl h
asked_from key p vs (cite.TripKnown k) q h = asked_one ask.TripKnown from_timetable (λ x. refl) (text_at vs k) q h
asked_from key p vs (cite.RouteKnown k) q h = asked_one ask.RouteKnown from_timetable (λ x. refl) (text_at vs k) q h
asked_from key p vs (cite.AgencyKnown k) q h = asked_one ask.AgencyKnown from_timetable (λ x. refl) (text_at vs k) q h
asked_from key p vs (cite.StopKind k) q h = asked_one ask.StopKind from_timetable (λ x. refl) (text_at vs k) q h
asked_from key p vs (cite.TripRoute k) q h = asked_one ask.TripRoute from_timetable (λ x. refl) (text_at vs k) q h
asked_from key p vs (cite.TripDirection k) q h = asked_one ask.TripDirection from_timetable (λ x. refl) (text_at vs k) q h
asked_from key p vs (cite.TripExact k) q h = asked_one ask.TripExact from_timetable (λ x. refl) (text_at vs k) q h
asked_from key p vs (cite.OnGrid j k) q h = asked_two ask.OnGrid from_timetable (λ x y. refl) (text_at vs j) (text_at vs k) q h
asked_from key p vs (cite.VisitsTwice k) q h = asked_one ask.VisitsTwice from_timetable (λ x. refl) (text_at vs k) q h
asked_from key p vs (cite.FirstArrival k) q h = asked_one ask.FirstArrival from_timetable (λ x. refl) (text_at vs k) q h
asked_from key p vs (cite.StopAt j k) q h = asked_two ask.StopAt from_timetable (λ x y. refl) (text_at vs j) (sequence_at vs k) q h
asked_from key p vs (cite.EventAt j k) q h = asked_two (event_ask p.slot) from_timetable (event_source p.slot) (text_at vs j) (sequence_at vs k) q h
asked_from key p vs (cite.FirstVehicle k) q h = asked_one (ask.FirstVehicle (other_kind p.slot)) from_rows (λ x. refl) (text_at vs k) q h
asked_from key p vs (cite.HasPair j k) q h = asked_two (ask.HasPair (other_kind p.slot)) from_rows (λ x y. refl) (text_at vs j) (text_at vs k) q h
asked_from key p vs cite.AnyRow q h = asked_is _ q from_rows refl h
asked_from key p vs (cite.HasId k) q h = asked_one (id_ask p.slot) from_rows (id_source p.slot) (text_at vs k) q h
asked_from key p vs (cite.FirstId k) q h = asked_one (ask.FirstId key.feed) from_rows (λ x. refl) (text_at vs k) q h
asked_from key p vs (cite.FirstOccurrence k) q h = asked_one (ask.FirstOccurrence key.feed) from_rows (λ x. refl) (text_at vs k) q h
asked_from key p vs (cite.Peak k) q h = asked_one (ask.Peak key.feed) from_peaks (λ x. refl) (text_at vs k) q h
