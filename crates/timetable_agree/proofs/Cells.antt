-- The ids that stand in the cells of an entity are among those that it names.
use Rattle.std.proofs.Common.{◌≡◌, ◌==◌, ◌||◌, ◌&&◌, ℕ, zero, suc, Bool, true, false, cond, List, [], ◌∷◌, ◌++◌, map, Option, Some, None, refl, sym, ap, ◌∙◌}
use Rattle.std.specs.Prelude.{slice_get, option_and_then}
use Rattle.std.specs.List.{list_all}
use Rattle.std.proofs.lemmas.Bool.{and_parts}
use Rattle.feed_values.specs.declared.slot.Slot.{Slot}
use Rattle.feed_values.specs.declared.slot.Slot.TheVariants.{S21, S25, S33, S41, S52, S56, S60, S75, S76, S79, S83, S85}
use Rattle.feed_values.specs.declared.cell_value.CellValue.{CellValue}
use Rattle.feed_values.specs.declared.cell_value.CellValue.TheVariants as value
use Rattle.feed_values.specs.Schema.{Value}
use Rattle.feed_values.specs.Messages.{entity, alert, trip_update, vehicle_position, entity_selector, stop_time_update}
use Rattle.feed_values.specs.Meaning.{option_case}
use Rattle.feed_values.specs.Cells.{entity_cell, text_cell, cell_in, way}
use Rattle.rule_table.specs.Asked.{text_in}
use Rattle.rule_table.specs.Judged.{update_of, alert_of}
use Rattle.rule_table.specs.Pairs.{vehicle_of}
use Rattle.timetable.specs.Maps.{Text}
use Rattle.timetable.specs.Timetables.{Tables}
use Rattle.timetable_agree.specs.Alike.{same_trip, same_route, same_stop, same_agency}
use Rattle.timetable_agree.specs.Agree.{if_given, same_named_trip, same_others, tables_agree}
use Rattle.timetable_agree.specs.Named.{Naming, namings, trip_id_of, route_id_of, by_update, by_vehicle, by_selector, by_stop, selectors_of, stops_of}

-- ---- the slots of ids
abbrev pub is_trip_slot : Slot → Bool
is_trip_slot S21 = true
is_trip_slot S52 = true
is_trip_slot S79 = true
is_trip_slot _ = false

abbrev pub is_route_slot : Slot → Bool
is_route_slot S25 = true
is_route_slot S56 = true
is_route_slot S76 = true
is_route_slot S83 = true
is_route_slot _ = false

abbrev pub is_stop_slot : Slot → Bool
is_stop_slot S33 = true
is_stop_slot S41 = true
is_stop_slot S60 = true
is_stop_slot S85 = true
is_stop_slot _ = false

abbrev pub is_agency_slot : Slot → Bool
is_agency_slot S75 = true
is_agency_slot _ = false

-- ---- texts of cells
record Inside {A : Type 0} (o : Option A) (g : A → CellValue) (t : Text) : Type 0 where
  x : A
  is : o ≡ Some x
  text : text_in (g x) ≡ Some t

inside : {A : Type 0} (o : Option A) (g : A → CellValue) (t : Text) → text_in (option_case o value.Missing g) ≡ Some t → Inside o g t
inside None g t h = absurd cc
inside (Some x) g t h = record { x = x; is = refl; text = h }

text_is : (o : Option Text) (t : Text) → text_in (text_cell o) ≡ Some t → o ≡ Some t
text_is None t h = absurd cc
text_is (Some x) t h = h

guarded : (b : Bool) (v : CellValue) (t : Text) → text_in (cond b v value.Missing) ≡ Some t → text_in v ≡ Some t
guarded true v t h = h
guarded false v t h = absurd cc

-- ---- parts of an entity
pub all_at : {A : Type 0} (p : A → Bool) (xs : List A) (i : ℕ) (x : A) → list_all p xs ≡ true → slice_get xs i ≡ Some x → p x ≡ true
all_at p [] i x h e = absurd cc
all_at p (y ∷ xs) zero x h e = let same : y ≡ x = cc in ap p (sym same) ∙ (and_parts (p y) (list_all p xs) h).0
all_at p (y ∷ xs) (suc i) x h e = all_at p xs i x (and_parts (p y) (list_all p xs) h).1 e

all_mapped : {A B : Type 0} (p : B → Bool) (f : A → B) (xs : List A) (i : ℕ) (x : A) → list_all p (map f xs) ≡ true → slice_get xs i ≡ Some x → p (f x) ≡ true
all_mapped p f [] i x h e = absurd cc
all_mapped p f (y ∷ xs) zero x h e = let same : y ≡ x = cc in ap (λ z. p (f z)) (sym same) ∙ (and_parts (p (f y)) (list_all p (map f xs)) h).0
all_mapped p f (y ∷ xs) (suc i) x h e = all_mapped p f xs i x (and_parts (p (f y)) (list_all p (map f xs)) h).1 e

all_front : {A : Type 0} (p : A → Bool) (xs ys : List A) → list_all p (xs ++ ys) ≡ true → list_all p xs ≡ true
all_front p [] ys h = refl
all_front p (x ∷ xs) ys h = let e = and_parts (p x) (list_all p (xs ++ ys)) h in ap (λ b. b && list_all p xs) e.0 ∙ all_front p xs ys e.1

all_back : {A : Type 0} (p : A → Bool) (xs ys : List A) → list_all p (xs ++ ys) ≡ true → list_all p ys ≡ true
all_back p [] ys h = h
all_back p (x ∷ xs) ys h = all_back p xs ys (and_parts (p x) (list_all p (xs ++ ys)) h).1

module _ (p : Naming → Bool) (e : Value entity) (all : list_all p (namings e) ≡ true) where
  of_update : (u : Value trip_update) → update_of e ≡ Some u → p (by_update (Some u)) ≡ true
  of_update u is =
      let lists = map by_selector (selectors_of (alert_of e)) ++ map by_stop (stops_of (update_of e)) in
      ap (λ o. p (by_update o)) (sym is) ∙ (and_parts (p (by_update (update_of e))) (p (by_vehicle (vehicle_of e)) && list_all p lists) all).0

  of_vehicle : (v : Value vehicle_position) → vehicle_of e ≡ Some v → p (by_vehicle (Some v)) ≡ true
  of_vehicle v is =
      let lists = map by_selector (selectors_of (alert_of e)) ++ map by_stop (stops_of (update_of e)) in
      let others = (and_parts (p (by_update (update_of e))) (p (by_vehicle (vehicle_of e)) && list_all p lists) all).1 in
      ap (λ o. p (by_vehicle o)) (sym is) ∙ (and_parts (p (by_vehicle (vehicle_of e))) (list_all p lists) others).0

  in_lists : list_all p (map by_selector (selectors_of (alert_of e)) ++ map by_stop (stops_of (update_of e))) ≡ true
  in_lists =
      let lists = map by_selector (selectors_of (alert_of e)) ++ map by_stop (stops_of (update_of e)) in
      (and_parts (p (by_vehicle (vehicle_of e))) (list_all p lists) (and_parts (p (by_update (update_of e))) (p (by_vehicle (vehicle_of e)) && list_all p lists) all).1).1

  of_selector : (al : Value alert) (i : ℕ) (s : Value entity_selector) → alert_of e ≡ Some al → slice_get al.1.0 i ≡ Some s → p (by_selector s) ≡ true
  of_selector al i s is there =
      all_mapped p by_selector (selectors_of (alert_of e)) i s (all_front p (map by_selector (selectors_of (alert_of e))) (map by_stop (stops_of (update_of e))) in_lists)
      (ap (λ o. slice_get (selectors_of o) i) is ∙ there)

  of_stop : (u : Value trip_update) (i : ℕ) (s : Value stop_time_update) → update_of e ≡ Some u → slice_get u.1.0 i ≡ Some s → p (by_stop s) ≡ true
  of_stop u i s is there =
      all_mapped p by_stop (stops_of (update_of e)) i s (all_back p (map by_selector (selectors_of (alert_of e))) (map by_stop (stops_of (update_of e))) in_lists)
      (ap (λ o. slice_get (stops_of o) i) is ∙ there)

pub given_is : (test : Text → Bool) (o : Option Text) (t : Text) → if_given test o ≡ true → o ≡ Some t → test t ≡ true
given_is test o t h e = ap (if_given test) (sym e) ∙ h

-- ---- what is the same of all others that a part names
pub record OthersSame (a b : Tables) (n : Naming) : Type 0 where
  pub trip_route : if_given (same_route a b) n.trip_route ≡ true
  pub route : if_given (same_route a b) n.route ≡ true
  pub stop : if_given (same_stop a b) n.stop ≡ true
  pub assigned : if_given (same_stop a b) n.assigned_stop ≡ true
  pub agency : if_given (same_agency a b) n.agency ≡ true

pub others_are : (a b : Tables) (n : Naming) → same_others a b n ≡ true → OthersSame a b n
others_are a b n h =
    let r = if_given (same_route a b) n.trip_route in
    let q = if_given (same_route a b) n.route in
    let s = if_given (same_stop a b) n.stop in
    let z = if_given (same_stop a b) n.assigned_stop in
    let g = if_given (same_agency a b) n.agency in
    let four = and_parts (r && q && s && z) g h in
    let three = and_parts (r && q && s) z four.0 in
    let two = and_parts (r && q) s three.0 in
    let one = and_parts r q two.0 in
    record { trip_route = one.0; route = one.1; stop = two.1; assigned = three.1; agency = four.1 }

module _ (a b : Tables) (e : Value entity) (agreed : tables_agree a b e ≡ true) where
  trips : list_all (same_named_trip a b) (namings e) ≡ true
  trips = (and_parts (list_all (same_named_trip a b) (namings e)) (list_all (same_others a b) (namings e)) agreed).0

  others : list_all (same_others a b) (namings e) ≡ true
  others = (and_parts (list_all (same_named_trip a b) (namings e)) (list_all (same_others a b) (namings e)) agreed).1

  pub trip_cell : (s : Slot) (i : ℕ) (t : Text) → is_trip_slot s ≡ true → text_in (entity_cell e s i) ≡ Some t → same_trip a b t ≡ true
  trip_cell S21 i t is h =
      let u = inside (update_of e) (λ u. text_cell u.0.0) t (guarded ((i == 0) || false) (cell_in entity e i (way S21)) t h) in
      given_is (same_trip a b) u.x.0.0 t (of_update (same_named_trip a b) e trips u.x u.is) (text_is u.x.0.0 t u.text)
  trip_cell S52 i t is h =
      let v = inside (vehicle_of e) (λ v. option_case v.0 value.Missing (λ d. text_cell d.0)) t (guarded ((i == 0) || false) (cell_in entity e i (way S52)) t h) in
      let d = inside v.x.0 (λ d. text_cell d.0) t v.text in
      given_is (same_trip a b) (option_and_then trip_id_of v.x.0) t (of_vehicle (same_named_trip a b) e trips v.x v.is)
      (ap (λ o. option_and_then trip_id_of o) d.is ∙ text_is d.x.0 t d.text)
  trip_cell S79 i t is h =
      let al = inside (alert_of e) (λ al. option_case (slice_get al.1.0 i) value.Missing (λ s. option_case s.1.1.1.0 value.Missing (λ d. text_cell d.0))) t
      (guarded ((i == 0) || true) (cell_in entity e i (way S79)) t h) in
      let s = inside (slice_get al.x.1.0 i) (λ s. option_case s.1.1.1.0 value.Missing (λ d. text_cell d.0)) t al.text in
      let d = inside s.x.1.1.1.0 (λ d. text_cell d.0) t s.text in
      given_is (same_trip a b) (option_and_then trip_id_of s.x.1.1.1.0) t (of_selector (same_named_trip a b) e trips al.x i s.x al.is s.is)
      (ap (λ o. option_and_then trip_id_of o) d.is ∙ text_is d.x.0 t d.text)
  trip_cell _ i t is h = absurd cc

  update_others : (u : Value trip_update) → update_of e ≡ Some u → OthersSame a b (by_update (Some u))
  update_others u is = others_are a b (by_update (Some u)) (of_update (same_others a b) e others u is)

  vehicle_others : (v : Value vehicle_position) → vehicle_of e ≡ Some v → OthersSame a b (by_vehicle (Some v))
  vehicle_others v is = others_are a b (by_vehicle (Some v)) (of_vehicle (same_others a b) e others v is)

  selector_others : (al : Value alert) (i : ℕ) (s : Value entity_selector) → alert_of e ≡ Some al → slice_get al.1.0 i ≡ Some s → OthersSame a b (by_selector s)
  selector_others al i s is there = others_are a b (by_selector s) (of_selector (same_others a b) e others al i s is there)

  stop_others : (u : Value trip_update) (i : ℕ) (s : Value stop_time_update) → update_of e ≡ Some u → slice_get u.1.0 i ≡ Some s → OthersSame a b (by_stop s)
  stop_others u i s is there = others_are a b (by_stop s) (of_stop (same_others a b) e others u i s is there)

  pub route_cell : (s : Slot) (i : ℕ) (t : Text) → is_route_slot s ≡ true → text_in (entity_cell e s i) ≡ Some t → same_route a b t ≡ true
  route_cell S25 i t is h =
      let u = inside (update_of e) (λ u. text_cell u.0.1.1.1.1.0) t (guarded ((i == 0) || false) (cell_in entity e i (way S25)) t h) in
      given_is (same_route a b) u.x.0.1.1.1.1.0 t (update_others u.x u.is).trip_route (text_is u.x.0.1.1.1.1.0 t u.text)
  route_cell S56 i t is h =
      let v = inside (vehicle_of e) (λ v. option_case v.0 value.Missing (λ d. text_cell d.1.1.1.1.0)) t (guarded ((i == 0) || false) (cell_in entity e i (way S56)) t h) in
      let d = inside v.x.0 (λ d. text_cell d.1.1.1.1.0) t v.text in
      given_is (same_route a b) (option_and_then route_id_of v.x.0) t (vehicle_others v.x v.is).trip_route
      (ap (λ o. option_and_then route_id_of o) d.is ∙ text_is d.x.1.1.1.1.0 t d.text)
  route_cell S76 i t is h =
      let al = inside (alert_of e) (λ al. option_case (slice_get al.1.0 i) value.Missing (λ s. text_cell s.1.0)) t (guarded ((i == 0) || true) (cell_in entity e i (way S76)) t h) in
      let s = inside (slice_get al.x.1.0 i) (λ s. text_cell s.1.0) t al.text in
      given_is (same_route a b) s.x.1.0 t (selector_others al.x i s.x al.is s.is).route (text_is s.x.1.0 t s.text)
  route_cell S83 i t is h =
      let al = inside (alert_of e) (λ al. option_case (slice_get al.1.0 i) value.Missing (λ s. option_case s.1.1.1.0 value.Missing (λ d. text_cell d.1.1.1.1.0))) t
      (guarded ((i == 0) || true) (cell_in entity e i (way S83)) t h) in
      let s = inside (slice_get al.x.1.0 i) (λ s. option_case s.1.1.1.0 value.Missing (λ d. text_cell d.1.1.1.1.0)) t al.text in
      let d = inside s.x.1.1.1.0 (λ d. text_cell d.1.1.1.1.0) t s.text in
      given_is (same_route a b) (option_and_then route_id_of s.x.1.1.1.0) t (selector_others al.x i s.x al.is s.is).trip_route
      (ap (λ o. option_and_then route_id_of o) d.is ∙ text_is d.x.1.1.1.1.0 t d.text)
  route_cell _ i t is h = absurd cc

  pub stop_cell : (s : Slot) (i : ℕ) (t : Text) → is_stop_slot s ≡ true → text_in (entity_cell e s i) ≡ Some t → same_stop a b t ≡ true
  stop_cell S33 i t is h =
      let u = inside (update_of e) (λ u. option_case (slice_get u.1.0 i) value.Missing (λ s. text_cell s.1.1.1.0)) t (guarded ((i == 0) || true) (cell_in entity e i (way S33)) t h) in
      let s = inside (slice_get u.x.1.0 i) (λ s. text_cell s.1.1.1.0) t u.text in
      given_is (same_stop a b) s.x.1.1.1.0 t (stop_others u.x i s.x u.is s.is).stop (text_is s.x.1.1.1.0 t s.text)
  stop_cell S41 i t is h =
      let u = inside (update_of e) (λ u. option_case (slice_get u.1.0 i) value.Missing (λ s. option_case s.1.1.1.1.1.0 value.Missing (λ d. text_cell d.0))) t
      (guarded ((i == 0) || true) (cell_in entity e i (way S41)) t h) in
      let s = inside (slice_get u.x.1.0 i) (λ s. option_case s.1.1.1.1.1.0 value.Missing (λ d. text_cell d.0)) t u.text in
      let d = inside s.x.1.1.1.1.1.0 (λ d. text_cell d.0) t s.text in
      given_is (same_stop a b) (option_and_then (λ properties. properties.0) s.x.1.1.1.1.1.0) t (stop_others u.x i s.x u.is s.is).assigned
      (ap (λ o. option_and_then (λ properties. properties.0) o) d.is ∙ text_is d.x.0 t d.text)
  stop_cell S60 i t is h =
      let v = inside (vehicle_of e) (λ v. text_cell v.1.1.1.1.1.1.0) t (guarded ((i == 0) || false) (cell_in entity e i (way S60)) t h) in
      given_is (same_stop a b) v.x.1.1.1.1.1.1.0 t (vehicle_others v.x v.is).stop (text_is v.x.1.1.1.1.1.1.0 t v.text)
  stop_cell S85 i t is h =
      let al = inside (alert_of e) (λ al. option_case (slice_get al.1.0 i) value.Missing (λ s. text_cell s.1.1.1.1.0)) t (guarded ((i == 0) || true) (cell_in entity e i (way S85)) t h) in
      let s = inside (slice_get al.x.1.0 i) (λ s. text_cell s.1.1.1.1.0) t al.text in
      given_is (same_stop a b) s.x.1.1.1.1.0 t (selector_others al.x i s.x al.is s.is).stop (text_is s.x.1.1.1.1.0 t s.text)
  stop_cell _ i t is h = absurd cc

  pub agency_cell : (s : Slot) (i : ℕ) (t : Text) → is_agency_slot s ≡ true → text_in (entity_cell e s i) ≡ Some t → same_agency a b t ≡ true
  agency_cell S75 i t is h =
      let al = inside (alert_of e) (λ al. option_case (slice_get al.1.0 i) value.Missing (λ s. text_cell s.0)) t (guarded ((i == 0) || true) (cell_in entity e i (way S75)) t h) in
      let s = inside (slice_get al.x.1.0 i) (λ s. text_cell s.0) t al.text in
      given_is (same_agency a b) s.x.0 t (selector_others al.x i s.x al.is s.is).agency (text_is s.x.0 t s.text)
  agency_cell _ i t is h = absurd cc
