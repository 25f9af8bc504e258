-- Rules find the same with two timetables that agree for an entity: each ask of a timetable is by an id of one of its cells.
use Rattle.std.specs.Prelude.{◌≡◌, ℕ, zero, suc, cond, ◌-◌, Bool, true, false, ◌&&◌, List, [], ◌∷◌, ◌++◌, Option, Some, None, option_map, option_and_then, slice_get, bytes_eq, refl}
use Rattle.std.specs.List.{list_all, IsDistinct}
use Rattle.std.proofs.Common.{sym, ap, subst, ◌∙◌}
use Rattle.std.proofs.lemmas.Bool.{and_parts}
use Rattle.feed_values.specs.declared.slot.Slot.{Slot}
use Rattle.feed_values.specs.declared.slot.Slot.TheVariants.{S3, S38}
use Rattle.feed_values.specs.declared.path.Path.{Path}
use Rattle.feed_values.specs.declared.cell_value.CellValue.{CellValue}
use Rattle.feed_values.specs.Schema.{Value}
use Rattle.feed_values.specs.Messages.{entity}
use Rattle.feed_values.specs.Cells.{entity_cell}
use Rattle.timetable.specs.Maps.{Text}
use Rattle.timetable.specs.Timetables.{Tables}
use Rattle.rule_table.specs.declared.rule.RuleId.{RuleId}
use Rattle.rule_table.specs.declared.ask.Ask.{Ask}
use Rattle.rule_table.specs.declared.ask.Ask.TheVariants as ask
use Rattle.rule_table.specs.declared.row.Cite.{Cite}
use Rattle.rule_table.specs.declared.row.Cite.TheVariants as cite
use Rattle.rule_table.specs.declared.fact.Fact.{Fact}
use Rattle.rule_table.specs.declared.key.EntityKey.{EntityKey}
use Rattle.rule_table.specs.declared.place.Place.TheVariants as place
use Rattle.rule_table.specs.Asked.{ask_at, path_at, text_at, text_in, sequence_at, with_both, trip_id_of, event_ask}
use Rattle.rule_table.specs.Cited.{and_then, answered, fact_at, values_of}
use Rattle.rule_table.specs.CitedLaws.{Along, both_same, found_along, value_is}
use Rattle.rule_table.specs.Sources.{source_of, source_at, asked_from}
use Rattle.rule_table.specs.Asks.{is_timetable}
use Rattle.rule_table.specs.EachRule.{each_rule}
use Rattle.rule_table.specs.Table.{slots_of, cites_of}
use Rattle.rule_table.specs.Judged.{places_at, found_at, found_below, found_in, found_all}
use Rattle.rule_table.proofs.Formed.{values_more}
use Rattle.rule_history.specs.Answered.{local_answer, table_answer}
use Rattle.timetable_agree.specs.Alike.{same_trip, same_route, same_stop, same_agency}
use Rattle.timetable_agree.specs.Agree.{tables_agree}
use Rattle.timetable_agree.specs.Laws.{AgreeingFindAlike, HasEachStopOnce}
use Rattle.timetable_agree.proofs.Asked.{known_alike, route_alike, direction_alike, exact_alike, grid_alike, twice_alike, first_arrival_alike, stop_alike, event_alike, route_known_alike, agency_known_alike, stop_kind_alike}
use Rattle.timetable_agree.proofs.Cells.{is_trip_slot, is_route_slot, is_stop_slot, is_agency_slot, trip_cell, route_cell, stop_cell, agency_cell}

-- ---- by which cells rows ask of a timetable
-- the slot of the cell that an entry cites at a place
abbrev slot_cited : Slot → Cite → Option Slot
slot_cited s cite.Place = Some s
slot_cited s (cite.Cell x) = Some x
slot_cited s (cite.Before x) = Some x
slot_cited s cite.TripId = Some (trip_id_of s)
slot_cited s _ = None

abbrev is_slot : (Slot → Bool) → Option Slot → Bool
is_slot test None = false
is_slot test (Some s) = test s

-- whether the cell that was cited by entry k is of such a slot
abbrev key_is : (Slot → Bool) → Slot → List Cite → ℕ → Bool
key_is test s done k = is_slot test (option_and_then (slot_cited s) (slice_get done k))

abbrev is_keyed : Slot → List Cite → Cite → Bool
is_keyed s done (cite.TripKnown k) = key_is is_trip_slot s done k
is_keyed s done (cite.RouteKnown k) = key_is is_route_slot s done k
is_keyed s done (cite.AgencyKnown k) = key_is is_agency_slot s done k
is_keyed s done (cite.StopKind k) = key_is is_stop_slot s done k
is_keyed s done (cite.TripRoute k) = key_is is_trip_slot s done k
is_keyed s done (cite.TripDirection k) = key_is is_trip_slot s done k
is_keyed s done (cite.TripExact k) = key_is is_trip_slot s done k
is_keyed s done (cite.OnGrid j k) = key_is is_trip_slot s done j
is_keyed s done (cite.VisitsTwice k) = key_is is_trip_slot s done k
is_keyed s done (cite.FirstArrival k) = key_is is_trip_slot s done k
is_keyed s done (cite.StopAt j k) = key_is is_trip_slot s done j
is_keyed s done (cite.EventAt j k) = key_is is_trip_slot s done j
is_keyed s done _ = true

abbrev are_keyed : Slot → List Cite → List Cite → Bool
are_keyed s done [] = true
are_keyed s done (c ∷ cs) = is_keyed s done c && are_keyed s (done ++ c ∷ []) cs

abbrev rule_keyed : RuleId → Bool
rule_keyed rule = list_all (λ s. are_keyed s [] (cites_of rule)) (slots_of rule)

-- the whole table, by computing
rules_keyed : (rule : RuleId) → rule_keyed rule ≡ true
rules_keyed rule = each_rule rule_keyed refl rule

-- ---- the values of entries that cite cells
abbrev IsCell : Value entity → Option Slot → CellValue → Type 0
IsCell e None v = Unit {0}
IsCell e (Some s) v = (i : ℕ) × (v ≡ entity_cell e s i)

abbrev AreCells : Value entity → Slot → List Cite → List CellValue → Type 0
AreCells e s [] [] = Unit {0}
AreCells e s [] (v ∷ vs) = ⊥
AreCells e s (c ∷ cs) [] = ⊥
AreCells e s (c ∷ cs) (v ∷ vs) = IsCell e (slot_cited s c) v × AreCells e s cs vs

one_cell_more : (e : Value entity) (s : Slot) (cs : List Cite) (vs : List CellValue) (c : Cite) (v : CellValue) → AreCells e s cs vs → IsCell e (slot_cited s c) v → AreCells e s (cs ++ c ∷ []) (vs ++ v ∷ [])
one_cell_more e s [] [] c v are is = (is, tt)
one_cell_more e s [] (w ∷ vs) c v are is = absurd are
one_cell_more e s (d ∷ cs) [] c v are is = absurd are
one_cell_more e s (d ∷ cs) (w ∷ vs) c v are is = (are.0, one_cell_more e s cs vs c v are.1 is)

record TextCell (e : Value entity) (test : Slot → Bool) (t : Text) : Type 0 where
  slot : Slot
  index : ℕ
  passes : test slot ≡ true
  is : text_in (entity_cell e slot index) ≡ Some t

text_cell_at : (e : Value entity) (test : Slot → Bool) (s : Slot) (cs : List Cite) (vs : List CellValue) (k : ℕ) (t : Text) → AreCells e s cs vs → key_is test s cs k ≡ true → text_at vs k ≡ Some t → TextCell e test t
text_cell_at e test s [] vs k t are ok is = absurd cc
text_cell_at e test s (c ∷ cs) [] k t are ok is = absurd are
text_cell_at e test s (c ∷ cs) (v ∷ vs) zero t are ok is = here (slot_cited s c) are.0 ok
  where
    here : (o : Option Slot) → IsCell e o v → is_slot test o ≡ true → TextCell e test t
    here None at passes = absurd cc
    here (Some x) at passes = record { slot = x; index = at.0; passes = passes; is = ap text_in (sym at.1) ∙ is }
text_cell_at e test s (c ∷ cs) (v ∷ vs) (suc k) t are ok is = text_cell_at e test s cs vs k t are.1 ok is

-- ---- two answers that are the same where they are asked
one_key : {A : Type 0} (a b : Ask → Option CellValue) (make : A → Ask) (o : Option A) → ((x : A) → o ≡ Some x → a (make x) ≡ b (make x))
    → and_then (option_map make o) (λ q. answered q (a q)) ≡ and_then (option_map make o) (λ q. answered q (b q))
one_key a b make None h = refl
one_key a b make (Some x) h = ap (answered (make x)) (h x refl)

two_keys : {A B : Type 0} (a b : Ask → Option CellValue) (make : A → B → Ask) (o : Option A) (p : Option B) → ((x : A) (y : B) → o ≡ Some x → a (make x y) ≡ b (make x y))
    → and_then (with_both make o p) (λ q. answered q (a q)) ≡ and_then (with_both make o p) (λ q. answered q (b q))
two_keys a b make None p h = refl
two_keys a b make (Some x) None h = refl
two_keys a b make (Some x) (Some y) h = ap (answered (make x y)) (h x y refl)

module _ (a b : Tables) (once_a : IsDistinct bytes_eq a.stop_times.stops) (once_b : IsDistinct bytes_eq b.stop_times.stops) (key : EntityKey) (e : Value entity) (agreed : tables_agree a b e ≡ true) where
  abbrev Old : Ask → Option CellValue
  Old q = local_answer (Some a) key e q

  abbrev New : Ask → Option CellValue
  New q = local_answer (Some b) key e q

  -- what isn't asked of a timetable
  elsewhere : (q : Ask) → is_timetable (source_of q) ≡ false → Old q ≡ New q
  elsewhere (ask.TripKnown trip) h = absurd cc
  elsewhere (ask.RouteKnown route) h = absurd cc
  elsewhere (ask.AgencyKnown agency) h = absurd cc
  elsewhere (ask.StopKind stop) h = absurd cc
  elsewhere (ask.TripRoute trip) h = absurd cc
  elsewhere (ask.TripDirection trip) h = absurd cc
  elsewhere (ask.TripExact trip) h = absurd cc
  elsewhere (ask.OnGrid trip time) h = absurd cc
  elsewhere (ask.VisitsTwice trip) h = absurd cc
  elsewhere (ask.FirstArrival trip) h = absurd cc
  elsewhere (ask.StopAt trip n) h = absurd cc
  elsewhere (ask.ArrivalAt trip n) h = absurd cc
  elsewhere (ask.DepartureAt trip n) h = absurd cc
  elsewhere _ h = refl

  head_is : (s : Slot) → is_timetable (source_at (cite.HeadNow s)) ≡ false
  head_is S3 = refl
  head_is _ = refl

  -- an event's ask is one of the timetable
  event_local : (s : Slot) (t : Text) (n : ℕ) → table_answer a (event_ask s t n) ≡ table_answer b (event_ask s t n) → Old (event_ask s t n) ≡ New (event_ask s t n)
  event_local S38 t n h = h
  event_local _ t n h = h

  module _ (p : Path) where
    fact_elsewhere : (vs : List CellValue) (c : Cite) → is_timetable (source_at c) ≡ false → fact_at Old (place.Entity key p) vs c ≡ fact_at New (place.Entity key p) vs c
    fact_elsewhere vs c h = asked (ask_at (place.Entity key p) vs c) refl
      where
        asked : (o : Option Ask) → ask_at (place.Entity key p) vs c ≡ o → and_then o (λ q. answered q (Old q)) ≡ and_then o (λ q. answered q (New q))
        asked None is = refl
        asked (Some q) is = ap (answered q) (elsewhere q (ap is_timetable (asked_from key p vs c q is) ∙ h))

    module _ (done : List Cite) (vs : List CellValue) (are : AreCells e p.slot done vs) where
      trip_at : (k : ℕ) (t : Text) → key_is is_trip_slot p.slot done k ≡ true → text_at vs k ≡ Some t → same_trip a b t ≡ true
      trip_at k t ok is = let x = text_cell_at e is_trip_slot p.slot done vs k t are ok is in trip_cell a b e agreed x.slot x.index t x.passes x.is

      route_at : (k : ℕ) (t : Text) → key_is is_route_slot p.slot done k ≡ true → text_at vs k ≡ Some t → same_route a b t ≡ true
      route_at k t ok is = let x = text_cell_at e is_route_slot p.slot done vs k t are ok is in route_cell a b e agreed x.slot x.index t x.passes x.is

      stop_at : (k : ℕ) (t : Text) → key_is is_stop_slot p.slot done k ≡ true → text_at vs k ≡ Some t → same_stop a b t ≡ true
      stop_at k t ok is = let x = text_cell_at e is_stop_slot p.slot done vs k t are ok is in stop_cell a b e agreed x.slot x.index t x.passes x.is

      agency_at : (k : ℕ) (t : Text) → key_is is_agency_slot p.slot done k ≡ true → text_at vs k ≡ Some t → same_agency a b t ≡ true
      agency_at k t ok is = let x = text_cell_at e is_agency_slot p.slot done vs k t are ok is in agency_cell a b e agreed x.slot x.index t x.passes x.is

      fact_same : (c : Cite) → is_keyed p.slot done c ≡ true → fact_at Old (place.Entity key p) vs c ≡ fact_at New (place.Entity key p) vs c
      fact_same (cite.TripKnown k) ok = one_key Old New ask.TripKnown (text_at vs k) (λ t is. known_alike a b once_a once_b t (trip_at k t ok is))
      fact_same (cite.RouteKnown k) ok = one_key Old New ask.RouteKnown (text_at vs k) (λ t is. route_known_alike a b t (route_at k t ok is))
      fact_same (cite.AgencyKnown k) ok = one_key Old New ask.AgencyKnown (text_at vs k) (λ t is. agency_known_alike a b t (agency_at k t ok is))
      fact_same (cite.StopKind k) ok = one_key Old New ask.StopKind (text_at vs k) (λ t is. stop_kind_alike a b t (stop_at k t ok is))
      fact_same (cite.TripRoute k) ok = one_key Old New ask.TripRoute (text_at vs k) (λ t is. route_alike a b once_a once_b t (trip_at k t ok is))
      fact_same (cite.TripDirection k) ok = one_key Old New ask.TripDirection (text_at vs k) (λ t is. direction_alike a b once_a once_b t (trip_at k t ok is))
      fact_same (cite.TripExact k) ok = one_key Old New ask.TripExact (text_at vs k) (λ t is. exact_alike a b once_a once_b t (trip_at k t ok is))
      fact_same (cite.OnGrid j k) ok = two_keys Old New ask.OnGrid (text_at vs j) (text_at vs k) (λ t text is. grid_alike a b once_a once_b t (trip_at j t ok is) text)
      fact_same (cite.VisitsTwice k) ok = one_key Old New ask.VisitsTwice (text_at vs k) (λ t is. twice_alike a b once_a once_b t (trip_at k t ok is))
      fact_same (cite.FirstArrival k) ok = one_key Old New ask.FirstArrival (text_at vs k) (λ t is. first_arrival_alike a b once_a once_b t (trip_at k t ok is))
      fact_same (cite.StopAt j k) ok = two_keys Old New ask.StopAt (text_at vs j) (sequence_at vs k) (λ t n is. stop_alike a b once_a once_b t (trip_at j t ok is) n)
      fact_same (cite.EventAt j k) ok =
          two_keys Old New (event_ask p.slot) (text_at vs j) (sequence_at vs k) (λ t n is. event_local p.slot t n (event_alike a b once_a once_b t (trip_at j t ok is) p.slot n))
      fact_same (cite.HeadNow s) ok = fact_elsewhere vs (cite.HeadNow s) (head_is s)
      fact_same c ok = fact_elsewhere vs c refl

    value_cited : (vs : List CellValue) (c : Cite) (f : Fact) → fact_at Old (place.Entity key p) vs c ≡ Some f → IsCell e (slot_cited p.slot c) f.value
    value_cited vs cite.Place f h = (p.index, value_is (ask.Cell p) (entity_cell e p.slot p.index) f h)
    value_cited vs (cite.Cell x) f h = let q = path_at x p.index in (q.index, value_is (ask.Cell q) (entity_cell e x q.index) f h)
    value_cited vs (cite.Before x) f h = let q = path_at x (p.index - 1) in (q.index, value_is (ask.Cell q) (entity_cell e x q.index) f h)
    value_cited vs cite.TripId f h = let q = path_at (trip_id_of p.slot) p.index in (q.index, value_is (ask.Cell q) (entity_cell e (trip_id_of p.slot) q.index) f h)
    value_cited vs _ f h = tt

    along : (done : List Cite) (before : List Fact) (cs : List Cite) → AreCells e p.slot done (values_of before) → are_keyed p.slot done cs ≡ true → Along Old New (place.Entity key p) before cs
    along done before [] are ok = tt
    along done before (c ∷ cs) are ok =
        let oks = and_parts (is_keyed p.slot done c) (are_keyed p.slot (done ++ c ∷ []) cs) ok in (
          fact_same done (values_of before) are c oks.0,
          λ f h.
              along (done ++ c ∷ []) (before ++ f ∷ []) cs
              (subst (λ vs. AreCells e p.slot (done ++ c ∷ []) vs) (sym (values_more before f)) (one_cell_more e p.slot done (values_of before) c f.value are (value_cited (values_of before) c f h))) oks.1,
        )

  place_alike : (rule : RuleId) (s : Slot) (i : ℕ) → are_keyed s [] (cites_of rule) ≡ true → found_at rule Old (place.Entity key (record { slot = s; index = i })) ≡ found_at rule New (place.Entity key (record { slot = s; index = i }))
  place_alike rule s i ok = found_along rule Old New (place.Entity key (record { slot = s; index = i })) (along (record { slot = s; index = i }) [] [] (cites_of rule) tt ok)

  below_alike : (rule : RuleId) (s : Slot) (n : ℕ) → are_keyed s [] (cites_of rule) ≡ true → found_below rule Old key s n ≡ found_below rule New key s n
  below_alike rule s zero ok = refl
  below_alike rule s (suc i) ok = both_same (below_alike rule s i ok) (place_alike rule s i ok)

  in_alike : (rule : RuleId) (slots : List Slot) → list_all (λ s. are_keyed s [] (cites_of rule)) slots ≡ true → found_in rule Old key e slots ≡ found_in rule New key e slots
  in_alike rule [] ok = refl
  in_alike rule (s ∷ slots) ok =
      let oks = and_parts (are_keyed s [] (cites_of rule)) (list_all (λ z. are_keyed z [] (cites_of rule)) slots) ok in
      both_same (below_alike rule s (places_at e s) oks.0) (in_alike rule slots oks.1)

  all_alike : (rules : List RuleId) → found_all rules Old key e ≡ found_all rules New key e
  all_alike [] = refl
  all_alike (rule ∷ rules) = both_same (in_alike rule (slots_of rule) (rules_keyed rule)) (all_alike rules)

pub agreeing_find_alike : AgreeingFindAlike
agreeing_find_alike None None once_a once_b key e h rules = refl
agreeing_find_alike None (Some b) once_a once_b key e h rules = absurd cc
agreeing_find_alike (Some a) None once_a once_b key e h rules = absurd cc
agreeing_find_alike (Some a) (Some b) once_a once_b key e h rules = all_alike a b once_a once_b key e h rules

-- of a timetable that is there or not
pub once_held : (present : Bool) (t : Tables) → IsDistinct bytes_eq t.stop_times.stops → HasEachStopOnce (cond present (Some t) None)
once_held true t once = once
once_held false t once = tt
