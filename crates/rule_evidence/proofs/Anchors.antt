-- Facts that hold show that the item of their place is there, so that their finding is among those of the entity.
use Rattle.std.specs.Prelude.{◌≡◌, ℕ, ◌<◌, ◌≤◌, ◌==◌, ◌||◌, ◌&&◌, not, Bool, true, false, cond, zero, suc, drop, List, [], ◌∷◌, ◌++◌, length, Option, Some, None, option_map, is_some, slice_get, slice_index_or, refl, if◌then◌else◌, int_le, pos, ℤ}
use Rattle.std.specs.List.{list_any, list_all}
use Rattle.std.proofs.Common.{inl, inr, sym, ap, ◌∙◌, subst, arith, append_assoc}
use Rattle.std.proofs.Math.Nat.{eq-or-lt_of_le}
use borrow.Author.Tests.{eqb-true}
use Rattle.std.proofs.lemmas.Bool.{and_parts, or_cases}
use Rattle.std.proofs.Math.Bool.{or-true}
use Rattle.feed_values.specs.declared.slot.Slot.{Slot}
use Rattle.feed_values.specs.declared.slot.Slot.TheVariants.{S1, S2, S3, S4, S10, S11, S20, S21, S22, S23, S24, S25, S26, S27, S28, S29, S30, S31, S32, S33, S34, S35, S36, S37, S38, S39, S40, S41, S42, S43, S44, S50, S51, S52, S53, S54, S55, S56, S57, S58, S59, S60, S70, S71, S72, S73, S74, S75, S76, S77, S78, S79, S80, S81, S82, S83, S84, S85}
use Rattle.feed_values.specs.declared.path.Path.{Path}
use Rattle.feed_values.specs.declared.cell_value.CellValue.{CellValue}
use Rattle.feed_values.specs.declared.cell_value.CellValue.TheVariants as value
use Rattle.feed_values.specs.Schema.{Value}
use Rattle.feed_values.specs.Messages.{entity, trip_update, stop_time_update, alert, time_range, entity_selector}
use Rattle.feed_values.specs.Meaning.{option_case}
use Rattle.feed_values.specs.Cells.{entity_cell, cell_in, has_item, has_item_of, way}
use Rattle.rule_table.specs.declared.rule.RuleId.{RuleId}
use Rattle.rule_table.specs.declared.row.Cite.{Cite}
use Rattle.rule_table.specs.declared.row.Cite.TheVariants as cite
use Rattle.rule_table.specs.declared.row.Atom.{Atom}
use Rattle.rule_table.specs.declared.row.Atom.TheVariants as atom
use Rattle.rule_table.specs.declared.key.EntityKey.{EntityKey}
use Rattle.rule_table.specs.declared.place.Place.{Place}
use Rattle.rule_table.specs.declared.place.Place.TheVariants as place
use Rattle.rule_table.specs.declared.ask.Ask.{Ask}
use Rattle.rule_table.specs.declared.ask.Ask.TheVariants as ask
use Rattle.rule_table.specs.declared.fact.Fact.{Fact}
use Rattle.rule_table.specs.Asked.{ask_at, path_at, value_at, text_in, number_in, sequence_of, with_both, trip_id_of, start_time_of, start_date_of, relationship_of, delay_of, time_of, holder_of}
use Rattle.rule_table.specs.Passed.{holds, passes, is_given, same_cell, number_is, numbers_are, given_or}
use Rattle.rule_table.specs.Cited.{values_of}
use Rattle.rule_table.specs.EachRule.{each_rule}
use Rattle.rule_table.specs.Table.{slots_of, cites_of, test_of}
use Rattle.rule_table.specs.Broken.{IsFormed, Breaks}
use Rattle.rule_table.specs.Found.{Found}
use Rattle.rule_table.specs.Judged.{places_at, update_of, alert_of, updates_in, periods_in, selectors_in, found_at, found_below, found_in, found_by}
use Rattle.rule_evidence.specs.Laws.{AllHold}
use Rattle.rule_table.specs.ClearSlots.{IsAmong, HasCells}
use Rattle.rule_evidence.proofs.Holding.{evidence_found}

-- ---- the item of a cell that is given is there
given_some : {B : Type 0} (o : Option B) (g : B → CellValue) → is_given (option_case o value.Missing g) ≡ true → is_some o ≡ true
given_some None g h = cc
given_some (Some x) g h = refl

get_below : {A : Type 0} (us : List A) (i : ℕ) → is_some (slice_get us i) ≡ true → i < length us
get_below [] i h = cc
get_below (u ∷ us) zero h = omega arith
get_below (u ∷ us) (suc i) h = let l = get_below us i h in omega (arith, l)

update_there : (o : Option (Value trip_update)) (i : ℕ) (g : Value stop_time_update → CellValue) → is_given (option_case o value.Missing (λ u. option_case (slice_get u.1.0 i) value.Missing g)) ≡ true → i < updates_in o
update_there None i g h = cc
update_there (Some u) i g h = get_below u.1.0 i (given_some (slice_get u.1.0 i) g h)

period_there : (o : Option (Value alert)) (i : ℕ) (g : Value time_range → CellValue) → is_given (option_case o value.Missing (λ a. option_case (slice_get a.0 i) value.Missing g)) ≡ true → i < periods_in o
period_there None i g h = cc
period_there (Some a) i g h = get_below a.0 i (given_some (slice_get a.0 i) g h)

selector_there : (o : Option (Value alert)) (i : ℕ) (g : Value entity_selector → CellValue) → is_given (option_case o value.Missing (λ a. option_case (slice_get a.1.0 i) value.Missing g)) ≡ true → i < selectors_in o
selector_there None i g h = cc
selector_there (Some a) i g h = get_below a.1.0 i (given_some (slice_get a.1.0 i) g h)

-- a cell of a slot with an index, without the test of the index
read : (i : ℕ) (c : CellValue) → is_given (if (i == 0) || true then c else value.Missing) ≡ true → is_given c ≡ true
read i c h = subst (λ b. is_given (cond b c value.Missing) ≡ true) (or-true (i == 0)) h

cell_there : (s : Slot) (i : ℕ) (e : Value entity) → has_item (way s) ≡ true → is_given (entity_cell e s i) ≡ true → i < places_at e s
cell_there S1 i e x h = cc
cell_there S2 i e x h = cc
cell_there S3 i e x h = cc
cell_there S4 i e x h = cc
cell_there S10 i e x h = cc
cell_there S11 i e x h = cc
cell_there S20 i e x h = cc
cell_there S21 i e x h = cc
cell_there S22 i e x h = cc
cell_there S23 i e x h = cc
cell_there S24 i e x h = cc
cell_there S25 i e x h = cc
cell_there S26 i e x h = cc
cell_there S27 i e x h = cc
cell_there S28 i e x h = cc
cell_there S29 i e x h = cc
cell_there S30 i e x h = cc
cell_there S31 i e x h = update_there (update_of e) i (λ w. cell_in stop_time_update w i (drop 2 (way S31))) (read i (cell_in entity e i (way S31)) h)
cell_there S32 i e x h = update_there (update_of e) i (λ w. cell_in stop_time_update w i (drop 2 (way S32))) (read i (cell_in entity e i (way S32)) h)
cell_there S33 i e x h = update_there (update_of e) i (λ w. cell_in stop_time_update w i (drop 2 (way S33))) (read i (cell_in entity e i (way S33)) h)
cell_there S34 i e x h = update_there (update_of e) i (λ w. cell_in stop_time_update w i (drop 2 (way S34))) (read i (cell_in entity e i (way S34)) h)
cell_there S35 i e x h = update_there (update_of e) i (λ w. cell_in stop_time_update w i (drop 2 (way S35))) (read i (cell_in entity e i (way S35)) h)
cell_there S36 i e x h = update_there (update_of e) i (λ w. cell_in stop_time_update w i (drop 2 (way S36))) (read i (cell_in entity e i (way S36)) h)
cell_there S37 i e x h = update_there (update_of e) i (λ w. cell_in stop_time_update w i (drop 2 (way S37))) (read i (cell_in entity e i (way S37)) h)
cell_there S38 i e x h = update_there (update_of e) i (λ w. cell_in stop_time_update w i (drop 2 (way S38))) (read i (cell_in entity e i (way S38)) h)
cell_there S39 i e x h = update_there (update_of e) i (λ w. cell_in stop_time_update w i (drop 2 (way S39))) (read i (cell_in entity e i (way S39)) h)
cell_there S40 i e x h = update_there (update_of e) i (λ w. cell_in stop_time_update w i (drop 2 (way S40))) (read i (cell_in entity e i (way S40)) h)
cell_there S41 i e x h = update_there (update_of e) i (λ w. cell_in stop_time_update w i (drop 2 (way S41))) (read i (cell_in entity e i (way S41)) h)
cell_there S42 i e x h = cc
cell_there S43 i e x h = cc
cell_there S44 i e x h = cc
cell_there S50 i e x h = cc
cell_there S51 i e x h = cc
cell_there S52 i e x h = cc
cell_there S53 i e x h = cc
cell_there S54 i e x h = cc
cell_there S55 i e x h = cc
cell_there S56 i e x h = cc
cell_there S57 i e x h = cc
cell_there S58 i e x h = cc
cell_there S59 i e x h = cc
cell_there S60 i e x h = cc
cell_there S70 i e x h = cc
cell_there S71 i e x h = period_there (alert_of e) i (λ w. cell_in time_range w i (drop 2 (way S71))) (read i (cell_in entity e i (way S71)) h)
cell_there S72 i e x h = period_there (alert_of e) i (λ w. cell_in time_range w i (drop 2 (way S72))) (read i (cell_in entity e i (way S72)) h)
cell_there S73 i e x h = cc
cell_there S74 i e x h = selector_there (alert_of e) i (λ w. cell_in entity_selector w i (drop 2 (way S74))) (read i (cell_in entity e i (way S74)) h)
cell_there S75 i e x h = selector_there (alert_of e) i (λ w. cell_in entity_selector w i (drop 2 (way S75))) (read i (cell_in entity e i (way S75)) h)
cell_there S76 i e x h = selector_there (alert_of e) i (λ w. cell_in entity_selector w i (drop 2 (way S76))) (read i (cell_in entity e i (way S76)) h)
cell_there S77 i e x h = selector_there (alert_of e) i (λ w. cell_in entity_selector w i (drop 2 (way S77))) (read i (cell_in entity e i (way S77)) h)
cell_there S78 i e x h = selector_there (alert_of e) i (λ w. cell_in entity_selector w i (drop 2 (way S78))) (read i (cell_in entity e i (way S78)) h)
cell_there S79 i e x h = selector_there (alert_of e) i (λ w. cell_in entity_selector w i (drop 2 (way S79))) (read i (cell_in entity e i (way S79)) h)
cell_there S80 i e x h = selector_there (alert_of e) i (λ w. cell_in entity_selector w i (drop 2 (way S80))) (read i (cell_in entity e i (way S80)) h)
cell_there S81 i e x h = selector_there (alert_of e) i (λ w. cell_in entity_selector w i (drop 2 (way S81))) (read i (cell_in entity e i (way S81)) h)
cell_there S82 i e x h = selector_there (alert_of e) i (λ w. cell_in entity_selector w i (drop 2 (way S82))) (read i (cell_in entity e i (way S82)) h)
cell_there S83 i e x h = selector_there (alert_of e) i (λ w. cell_in entity_selector w i (drop 2 (way S83))) (read i (cell_in entity e i (way S83)) h)
cell_there S84 i e x h = selector_there (alert_of e) i (λ w. cell_in entity_selector w i (drop 2 (way S84))) (read i (cell_in entity e i (way S84)) h)
cell_there S85 i e x h = selector_there (alert_of e) i (λ w. cell_in entity_selector w i (drop 2 (way S85))) (read i (cell_in entity e i (way S85)) h)

pub one_place : (s : Slot) (e : Value entity) → has_item (way s) ≡ false → places_at e s ≡ 1
one_place S1 e x = refl
one_place S2 e x = refl
one_place S3 e x = refl
one_place S4 e x = refl
one_place S10 e x = refl
one_place S11 e x = refl
one_place S20 e x = refl
one_place S21 e x = refl
one_place S22 e x = refl
one_place S23 e x = refl
one_place S24 e x = refl
one_place S25 e x = refl
one_place S26 e x = refl
one_place S27 e x = refl
one_place S28 e x = refl
one_place S29 e x = refl
one_place S30 e x = refl
one_place S31 e x = cc
one_place S32 e x = cc
one_place S33 e x = cc
one_place S34 e x = cc
one_place S35 e x = cc
one_place S36 e x = cc
one_place S37 e x = cc
one_place S38 e x = cc
one_place S39 e x = cc
one_place S40 e x = cc
one_place S41 e x = cc
one_place S42 e x = refl
one_place S43 e x = refl
one_place S44 e x = refl
one_place S50 e x = refl
one_place S51 e x = refl
one_place S52 e x = refl
one_place S53 e x = refl
one_place S54 e x = refl
one_place S55 e x = refl
one_place S56 e x = refl
one_place S57 e x = refl
one_place S58 e x = refl
one_place S59 e x = refl
one_place S60 e x = refl
one_place S70 e x = refl
one_place S71 e x = cc
one_place S72 e x = cc
one_place S73 e x = refl
one_place S74 e x = cc
one_place S75 e x = cc
one_place S76 e x = cc
one_place S77 e x = cc
one_place S78 e x = cc
one_place S79 e x = cc
one_place S80 e x = cc
one_place S81 e x = cc
one_place S82 e x = cc
one_place S83 e x = cc
one_place S84 e x = cc
one_place S85 e x = cc

-- which list a slot leads through, by a number
abbrev pub list_number : Slot → ℕ
list_number s = if has_item_of "stop_time_update" (way s) then 1 else if has_item_of "active_period" (way s) then 2 else if has_item_of "informed_entity" (way s) then 3 else 0

abbrev places_of : Value entity → ℕ → ℕ
places_of e n = if n == 1 then updates_in (update_of e) else if n == 2 then periods_in (alert_of e) else if n == 3 then selectors_in (alert_of e) else 1

places_number : (s : Slot) (e : Value entity) → places_at e s ≡ places_of e (list_number s)
places_number S1 e = refl
places_number S2 e = refl
places_number S3 e = refl
places_number S4 e = refl
places_number S10 e = refl
places_number S11 e = refl
places_number S20 e = refl
places_number S21 e = refl
places_number S22 e = refl
places_number S23 e = refl
places_number S24 e = refl
places_number S25 e = refl
places_number S26 e = refl
places_number S27 e = refl
places_number S28 e = refl
places_number S29 e = refl
places_number S30 e = refl
places_number S31 e = refl
places_number S32 e = refl
places_number S33 e = refl
places_number S34 e = refl
places_number S35 e = refl
places_number S36 e = refl
places_number S37 e = refl
places_number S38 e = refl
places_number S39 e = refl
places_number S40 e = refl
places_number S41 e = refl
places_number S42 e = refl
places_number S43 e = refl
places_number S44 e = refl
places_number S50 e = refl
places_number S51 e = refl
places_number S52 e = refl
places_number S53 e = refl
places_number S54 e = refl
places_number S55 e = refl
places_number S56 e = refl
places_number S57 e = refl
places_number S58 e = refl
places_number S59 e = refl
places_number S60 e = refl
places_number S70 e = refl
places_number S71 e = refl
places_number S72 e = refl
places_number S73 e = refl
places_number S74 e = refl
places_number S75 e = refl
places_number S76 e = refl
places_number S77 e = refl
places_number S78 e = refl
places_number S79 e = refl
places_number S80 e = refl
places_number S81 e = refl
places_number S82 e = refl
places_number S83 e = refl
places_number S84 e = refl
places_number S85 e = refl

-- ---- facts that are given
-- whether a condition is true only where fact k is given
abbrev pub gives : ℕ → Atom → Bool
gives k (atom.Given j) = j == k
gives k (atom.Outside j low high) = j == k
gives k (atom.NotBelow i j) = j == k
gives k (atom.Below i j) = i == k
gives k (atom.Equal i j) = j == k
gives k (atom.Differ i j) = i == k
gives k (atom.NotClock j) = j == k
gives k (atom.NotDate j) = j == k
gives k _ = false

-- whether a condition is true only where fact j or fact k is given
abbrev pub gives_one : ℕ → ℕ → Atom → Bool
gives_one j k (atom.NotLater a b c d) = c == j && d == k
gives_one j k _ = false

-- whether an entry asks by the text or the number of fact k
abbrev pub keyed : ℕ → Cite → Bool
keyed k (cite.TripKnown j) = j == k
keyed k (cite.RouteKnown j) = j == k
keyed k (cite.AgencyKnown j) = j == k
keyed k (cite.StopKind j) = j == k
keyed k (cite.TripRoute j) = j == k
keyed k (cite.TripDirection j) = j == k
keyed k (cite.StopAt i j) = j == k
keyed k _ = false

number_given : (v : CellValue) (t : ℤ → Bool) → number_is t (number_in v) ≡ true → is_given v ≡ true
number_given value.Missing t h = cc
number_given (value.Number n) t h = refl
number_given (value.Text s) t h = refl

first_given : (v w : CellValue) (t : ℤ → ℤ → Bool) → numbers_are t (number_in v) (number_in w) ≡ true → is_given v ≡ true
first_given value.Missing w t h = cc
first_given (value.Number n) w t h = refl
first_given (value.Text s) w t h = refl

second_given : (v w : CellValue) (t : ℤ → ℤ → Bool) → numbers_are t (number_in v) (number_in w) ≡ true → is_given w ≡ true
second_given value.Missing w t h = cc
second_given (value.Number n) value.Missing t h = cc
second_given (value.Number n) (value.Number m) t h = refl
second_given (value.Number n) (value.Text s) t h = refl
second_given (value.Text s) w t h = cc

equal_given : (v w : CellValue) → (is_given v && same_cell v w) ≡ true → is_given w ≡ true
equal_given value.Missing w h = cc
equal_given (value.Number n) value.Missing h = cc
equal_given (value.Number n) (value.Number m) h = refl
equal_given (value.Number n) (value.Text s) h = cc
equal_given (value.Text s) value.Missing h = cc
equal_given (value.Text s) (value.Number m) h = cc
equal_given (value.Text s) (value.Text t) h = refl

or_given : (d c : CellValue) → is_given (given_or d c) ≡ true → (is_given c || is_given d) ≡ true
or_given d value.Missing h = h
or_given d (value.Number n) h = refl
or_given d (value.Text s) h = refl

-- a condition that holds gives its fact
gives_sound : (at : Place) (k : ℕ) (a : Atom) (vs : List CellValue) → gives k a ≡ true → holds at vs a ≡ true → is_given (value_at vs k) ≡ true
gives_sound at k (atom.Given j) vs g h = subst (λ i. is_given (value_at vs i) ≡ true) (eqb-true j k g) h
gives_sound at k (atom.Outside j low high) vs g h = subst (λ i. is_given (value_at vs i) ≡ true) (eqb-true j k g) (number_given (value_at vs j) (λ x. not (int_le (pos low) x && int_le x (pos high))) h)
gives_sound at k (atom.NotBelow i j) vs g h = subst (λ i. is_given (value_at vs i) ≡ true) (eqb-true j k g) (second_given (value_at vs i) (value_at vs j) (λ x y. int_le y x) h)
gives_sound at k (atom.Below i j) vs g h = subst (λ i. is_given (value_at vs i) ≡ true) (eqb-true i k g) (first_given (value_at vs i) (value_at vs j) (λ x y. not (int_le y x)) h)
gives_sound at k (atom.Equal i j) vs g h = subst (λ i. is_given (value_at vs i) ≡ true) (eqb-true j k g) (equal_given (value_at vs i) (value_at vs j) h)
gives_sound at k (atom.Differ i j) vs g h = subst (λ i. is_given (value_at vs i) ≡ true) (eqb-true i k g) (left3 (is_given (value_at vs i)) (is_given (value_at vs j)) (not (same_cell (value_at vs i) (value_at vs j))) h)
  where
    left3 : (a b c : Bool) → (a && b && c) ≡ true → a ≡ true
    left3 true b c h = refl
    left3 false b c h = cc
gives_sound at k (atom.NotClock j) vs g h = subst (λ i. is_given (value_at vs i) ≡ true) (eqb-true j k g) (and_parts (is_given (value_at vs j)) _ h).0
gives_sound at k (atom.NotDate j) vs g h = subst (λ i. is_given (value_at vs i) ≡ true) (eqb-true j k g) (and_parts (is_given (value_at vs j)) _ h).0
gives_sound at k (atom.Missing j) vs g h = cc
gives_sound at k (atom.Is j n) vs g h = cc
gives_sound at k (atom.IsNot j n) vs g h = cc
gives_sound at k (atom.AtLeast j n) vs g h = cc
gives_sound at k (atom.AnyMissing i j) vs g h = cc
gives_sound at k (atom.Above i j n) vs g h = cc
gives_sound at k (atom.IsTime j) vs g h = cc
gives_sound at k (atom.TimeDiffers i j) vs g h = cc
gives_sound at k (atom.NotLater a b c d) vs g h = cc
gives_sound at k (atom.NotVersion j) vs g h = cc
gives_sound at k (atom.IsVersion2 j) vs g h = cc
gives_sound at k (atom.NotVersion2 j) vs g h = cc
gives_sound at k (atom.NotItself i j) vs g h = cc

by_test : (at : Place) (k : ℕ) (atoms : List Atom) (vs : List CellValue) → list_any (gives k) atoms ≡ true → passes at atoms vs ≡ true → is_given (value_at vs k) ≡ true
by_test at k [] vs g h = cc
by_test at k (a ∷ atoms) vs g h =
    let p = and_parts (holds at vs a) (passes at atoms vs) h in
    elim (gives k a) as (λ b. gives k a ≡ b → (b || list_any (gives k) atoms) ≡ true → is_given (value_at vs k) ≡ true) [
      | true ↦ λ e _. gives_sound at k a vs e p.0
      | false ↦ λ _ e. by_test at k atoms vs e p.1
    ] refl g

more_values : (xs ys : List CellValue) (k : ℕ) → is_given (value_at xs k) ≡ true → is_given (value_at (xs ++ ys) k) ≡ true
more_values [] ys k h = cc
more_values (x ∷ xs) ys zero h = h
more_values (x ∷ xs) ys (suc k) h = more_values xs ys k h

text_given : (v : CellValue) (make : List ℕ → Ask) (a : Ask) → option_map make (text_in v) ≡ Some a → is_given v ≡ true
text_given value.Missing make a h = cc
text_given (value.Number n) make a h = cc
text_given (value.Text s) make a h = refl

number_key : (o : Option (List ℕ)) (v : CellValue) (make : List ℕ → ℕ → Ask) (a : Ask) → with_both make o (sequence_of (number_in v)) ≡ Some a → is_given v ≡ true
number_key None v make a h = cc
number_key (Some t) value.Missing make a h = cc
number_key (Some t) (value.Number n) make a h = refl
number_key (Some t) (value.Text s) make a h = refl

of_cite : (at : Place) (vs : List CellValue) (k : ℕ) (c : Cite) (a : Ask) → keyed k c ≡ true → ask_at at vs c ≡ Some a → is_given (value_at vs k) ≡ true
of_cite at vs k cite.Place a e q = cc
of_cite at vs k (cite.Cell s) a e q = cc
of_cite at vs k (cite.Before s) a e q = cc
of_cite at vs k cite.TripId a e q = cc
of_cite at vs k cite.StartTime a e q = cc
of_cite at vs k cite.StartDate a e q = cc
of_cite at vs k cite.Relationship a e q = cc
of_cite at vs k cite.Delay a e q = cc
of_cite at vs k cite.Time a e q = cc
of_cite at vs k cite.Holder a e q = cc
of_cite at vs k (cite.HeadNow s) a e q = cc
of_cite at vs k (cite.HeadBefore s) a e q = cc
of_cite at vs k cite.Moment a e q = cc
of_cite at vs k cite.Occurrence a e q = cc
of_cite at vs k cite.EntitiesChanged a e q = cc
of_cite at vs k (cite.TripKnown j) a e q = subst (λ i. is_given (value_at vs i) ≡ true) (eqb-true j k e) (text_given (value_at vs j) ask.TripKnown a q)
of_cite at vs k (cite.RouteKnown j) a e q = subst (λ i. is_given (value_at vs i) ≡ true) (eqb-true j k e) (text_given (value_at vs j) ask.RouteKnown a q)
of_cite at vs k (cite.AgencyKnown j) a e q = subst (λ i. is_given (value_at vs i) ≡ true) (eqb-true j k e) (text_given (value_at vs j) ask.AgencyKnown a q)
of_cite at vs k (cite.StopKind j) a e q = subst (λ i. is_given (value_at vs i) ≡ true) (eqb-true j k e) (text_given (value_at vs j) ask.StopKind a q)
of_cite at vs k (cite.TripRoute j) a e q = subst (λ i. is_given (value_at vs i) ≡ true) (eqb-true j k e) (text_given (value_at vs j) ask.TripRoute a q)
of_cite at vs k (cite.TripDirection j) a e q = subst (λ i. is_given (value_at vs i) ≡ true) (eqb-true j k e) (text_given (value_at vs j) ask.TripDirection a q)
of_cite at vs k (cite.TripExact j) a e q = cc
of_cite at vs k (cite.OnGrid i j) a e q = cc
of_cite at vs k (cite.VisitsTwice j) a e q = cc
of_cite at vs k (cite.FirstArrival j) a e q = cc
of_cite at vs k (cite.StopAt i j) a e q = subst (λ i. is_given (value_at vs i) ≡ true) (eqb-true j k e) (number_key (text_in (value_at vs i)) (value_at vs j) ask.StopAt a q)
of_cite at vs k (cite.EventAt i j) a e q = cc
of_cite at vs k (cite.FirstVehicle j) a e q = cc
of_cite at vs k (cite.HasPair i j) a e q = cc
of_cite at vs k cite.AnyRow a e q = cc
of_cite at vs k (cite.HasId j) a e q = cc
of_cite at vs k (cite.FirstId j) a e q = cc
of_cite at vs k (cite.FirstOccurrence j) a e q = cc
of_cite at vs k (cite.Peak j) a e q = cc

by_key : (at : Place) (k : ℕ) (vs : List CellValue) (cs : List Cite) (fs : List Fact) → list_any (keyed k) cs ≡ true → IsFormed at vs cs fs → is_given (value_at (vs ++ values_of fs) k) ≡ true
by_key at k vs [] fs g h = cc
by_key at k vs (c ∷ cs) [] g h = absurd h
by_key at k vs (c ∷ cs) (f ∷ fs) g h =
    elim (keyed k c) as (λ b. keyed k c ≡ b → (b || list_any (keyed k) cs) ≡ true → is_given (value_at (vs ++ f.value ∷ values_of fs) k) ≡ true) [
      | true ↦ λ e _. more_values vs (f.value ∷ values_of fs) k (of_cite at vs k c f.ask e h.0)
      | false ↦ λ _ e. subst (λ xs. is_given (value_at xs k) ≡ true) (append_assoc vs (f.value ∷ []) (values_of fs)) (by_key at k (vs ++ f.value ∷ []) cs fs e h.2)
    ] refl g

-- ---- cells at the place's own index
-- the slot whose cell an entry asks for, at the index of the place
abbrev pub here_slot : Slot → Cite → Option Slot
here_slot s cite.Place = Some s
here_slot s (cite.Cell t) = Some t
here_slot s cite.TripId = Some (trip_id_of s)
here_slot s cite.StartTime = Some (start_time_of s)
here_slot s cite.StartDate = Some (start_date_of s)
here_slot s cite.Relationship = Some (relationship_of s)
here_slot s cite.Delay = Some (delay_of s)
here_slot s cite.Time = Some (time_of s)
here_slot s cite.Holder = Some (holder_of s)
here_slot s _ = None

own_path : (p : Path) → has_item (way p.slot) ≡ true → p ≡ path_at p.slot p.index
own_path p x = let q : Path = record { slot = p.slot; index = p.index } in ap (λ b. let r : Path = record { slot = p.slot; index = cond b p.index 0 } in r) (sym x)

ask_here : (key : EntityKey) (p : Path) (vs : List CellValue) (c : Cite) (t : Slot) → has_item (way p.slot) ≡ true → here_slot p.slot c ≡ Some t → ask_at (place.Entity key p) vs c ≡ Some (ask.Cell (path_at t p.index))
ask_here key p vs cite.Place t x h = let q : p.slot ≡ t = cc in ap (λ r. Some (ask.Cell r)) (own_path p x) ∙ ap (λ u. Some (ask.Cell (path_at u p.index))) q
ask_here key p vs (cite.Cell s) t x h = let q : s ≡ t = cc in ap (λ u. Some (ask.Cell (path_at u p.index))) q
ask_here key p vs (cite.Before s) t x h = cc
ask_here key p vs cite.TripId t x h = let q : trip_id_of p.slot ≡ t = cc in ap (λ u. Some (ask.Cell (path_at u p.index))) q
ask_here key p vs cite.StartTime t x h = let q : start_time_of p.slot ≡ t = cc in ap (λ u. Some (ask.Cell (path_at u p.index))) q
ask_here key p vs cite.StartDate t x h = let q : start_date_of p.slot ≡ t = cc in ap (λ u. Some (ask.Cell (path_at u p.index))) q
ask_here key p vs cite.Relationship t x h = let q : relationship_of p.slot ≡ t = cc in ap (λ u. Some (ask.Cell (path_at u p.index))) q
ask_here key p vs cite.Delay t x h = let q : delay_of p.slot ≡ t = cc in ap (λ u. Some (ask.Cell (path_at u p.index))) q
ask_here key p vs cite.Time t x h = let q : time_of p.slot ≡ t = cc in ap (λ u. Some (ask.Cell (path_at u p.index))) q
ask_here key p vs cite.Holder t x h = let q : holder_of p.slot ≡ t = cc in ap (λ u. Some (ask.Cell (path_at u p.index))) q
ask_here key p vs (cite.HeadNow s) t x h = cc
ask_here key p vs (cite.HeadBefore s) t x h = cc
ask_here key p vs cite.Moment t x h = cc
ask_here key p vs cite.Occurrence t x h = cc
ask_here key p vs cite.EntitiesChanged t x h = cc
ask_here key p vs (cite.TripKnown j) t x h = cc
ask_here key p vs (cite.RouteKnown j) t x h = cc
ask_here key p vs (cite.AgencyKnown j) t x h = cc
ask_here key p vs (cite.StopKind j) t x h = cc
ask_here key p vs (cite.TripRoute j) t x h = cc
ask_here key p vs (cite.TripDirection j) t x h = cc
ask_here key p vs (cite.TripExact j) t x h = cc
ask_here key p vs (cite.OnGrid i j) t x h = cc
ask_here key p vs (cite.VisitsTwice j) t x h = cc
ask_here key p vs (cite.FirstArrival j) t x h = cc
ask_here key p vs (cite.StopAt i j) t x h = cc
ask_here key p vs (cite.EventAt i j) t x h = cc
ask_here key p vs (cite.FirstVehicle j) t x h = cc
ask_here key p vs (cite.HasPair i j) t x h = cc
ask_here key p vs cite.AnyRow t x h = cc
ask_here key p vs (cite.HasId j) t x h = cc
ask_here key p vs (cite.FirstId j) t x h = cc
ask_here key p vs (cite.FirstOccurrence j) t x h = cc
ask_here key p vs (cite.Peak j) t x h = cc

here_is : (answer : Ask → Option CellValue) (key : EntityKey) (p : Path) (vs : List CellValue) (cs : List Cite) (fs : List Fact) (k : ℕ) (c : Cite) (t : Slot) → has_item (way p.slot) ≡ true
    → IsFormed (place.Entity key p) vs cs fs → AllHold answer fs → slice_get cs k ≡ Some c → here_slot p.slot c ≡ Some t → answer (ask.Cell (path_at t p.index)) ≡ Some (value_at (values_of fs) k)
here_is answer key p vs [] fs k c t x h all e s = cc
here_is answer key p vs (d ∷ cs) [] k c t x h all e s = absurd h
here_is answer key p vs (d ∷ cs) (f ∷ fs) zero c t x h all e s =
    let q : d ≡ c = cc in
    let u : Some (ask.Cell (path_at t p.index)) ≡ Some f.ask = sym (ask_here key p vs c t x s) ∙ ap (ask_at (place.Entity key p) vs) (sym q) ∙ h.0 in
    let r : ask.Cell (path_at t p.index) ≡ f.ask = cc in
    ap answer r ∙ all.0
here_is answer key p vs (d ∷ cs) (f ∷ fs) (suc k) c t x h all e s = here_is answer key p (vs ++ f.value ∷ []) cs fs k c t x h.2 all.1 e s

-- a test of two stops gives one of the times of the second
later_given : (at : Place) (a : Atom) (vs : List CellValue) → gives_one 2 3 a ≡ true → holds at vs a ≡ true → (is_given (value_at vs 2) || is_given (value_at vs 3)) ≡ true
later_given at (atom.NotLater i j k l) vs g h =
    let q = and_parts (k == 2) (l == 3) g in
    let given = second_given (given_or (value_at vs i) (value_at vs j)) (given_or (value_at vs l) (value_at vs k)) (λ x y. int_le y x) h in
    subst (λ n. (is_given (value_at vs n) || is_given (value_at vs 3)) ≡ true) (eqb-true k 2 q.0)
    (subst (λ n. (is_given (value_at vs k) || is_given (value_at vs n)) ≡ true) (eqb-true l 3 q.1) (or_given (value_at vs l) (value_at vs k) given))
later_given at (atom.Given j) vs g h = cc
later_given at (atom.Missing j) vs g h = cc
later_given at (atom.Is j n) vs g h = cc
later_given at (atom.IsNot j n) vs g h = cc
later_given at (atom.AtLeast j n) vs g h = cc
later_given at (atom.AnyMissing i j) vs g h = cc
later_given at (atom.Outside j l m) vs g h = cc
later_given at (atom.NotBelow i j) vs g h = cc
later_given at (atom.Below i j) vs g h = cc
later_given at (atom.Above i j n) vs g h = cc
later_given at (atom.Equal i j) vs g h = cc
later_given at (atom.Differ i j) vs g h = cc
later_given at (atom.IsTime j) vs g h = cc
later_given at (atom.NotClock j) vs g h = cc
later_given at (atom.NotDate j) vs g h = cc
later_given at (atom.TimeDiffers i j) vs g h = cc
later_given at (atom.NotVersion j) vs g h = cc
later_given at (atom.IsVersion2 j) vs g h = cc
later_given at (atom.NotVersion2 j) vs g h = cc
later_given at (atom.NotItself i j) vs g h = cc

by_later : (at : Place) (atoms : List Atom) (vs : List CellValue) → list_any (gives_one 2 3) atoms ≡ true → passes at atoms vs ≡ true → (is_given (value_at vs 2) || is_given (value_at vs 3)) ≡ true
by_later at [] vs g h = cc
by_later at (a ∷ atoms) vs g h =
    let p = and_parts (holds at vs a) (passes at atoms vs) h in
    elim (gives_one 2 3 a) as (λ b. gives_one 2 3 a ≡ b → (b || list_any (gives_one 2 3) atoms) ≡ true → (is_given (value_at vs 2) || is_given (value_at vs 3)) ≡ true) [
      | true ↦ λ e _. later_given at a vs e p.0
      | false ↦ λ _ e. by_later at atoms vs e p.1
    ] refl g

-- ---- anchors
abbrev same_list : Slot → Option Slot → Bool
same_list s None = false
same_list s (Some t) = (list_number t == list_number s) && has_item (way t)

-- whether an entry asks for a cell in the item of the place
abbrev is_here : Slot → Option Cite → Bool
is_here s None = false
is_here s (Some c) = same_list s (here_slot s c)

-- whether fact k shows that the item of the place is there
abbrev anchors : RuleId → Slot → ℕ → Bool
anchors rule s k = is_here s (slice_get (cites_of rule) k) && (list_any (gives k) (test_of rule) || list_any (keyed k) (cites_of rule))

-- or two facts do, of which one is given
abbrev anchors_two : RuleId → Slot → Bool
anchors_two rule s = is_here s (slice_get (cites_of rule) 2) && is_here s (slice_get (cites_of rule) 3) && list_any (gives_one 2 3) (test_of rule)

abbrev numbers : List ℕ
numbers = 0 ∷ 1 ∷ 2 ∷ 3 ∷ 4 ∷ 5 ∷ []

abbrev anchored : RuleId → Slot → Bool
anchored rule s = not (has_item (way s)) || (list_any (anchors rule s) numbers || anchors_two rule s)

all_anchored : (rule : RuleId) → list_all (anchored rule) (slots_of rule) ≡ true
all_anchored = each_rule (λ r. list_all (anchored r) (slots_of r)) refl

at_member : (test : Slot → Bool) (slots : List Slot) (i : ℕ) (s : Slot) → i < length slots → slice_index_or slots i s ≡ s → list_all test slots ≡ true → test s ≡ true
at_member test [] i s l e h = absurd (omega (arith, l))
at_member test (x ∷ slots) zero s l e h = ap test (sym e) ∙ (and_parts (test x) (list_all test slots) h).0
at_member test (x ∷ slots) (suc i) s l e h = at_member test slots i s (omega (arith, l)) e (and_parts (test x) (list_all test slots) h).1

-- a number of which a test is true
record One (test : ℕ → Bool) : Type 0 where
  at : ℕ
  is : test at ≡ true

one_of : (test : ℕ → Bool) (xs : List ℕ) → list_any test xs ≡ true → One test
one_of test [] h = cc
one_of test (x ∷ xs) h =
    elim (test x) as (λ b. test x ≡ b → (b || list_any test xs) ≡ true → One test) [
      | true ↦ λ e _. record { at = x; is = e }
      | false ↦ λ _ m. one_of test xs m
    ] refl h

module _ (answer : Ask → Option CellValue) (rule : RuleId) (key : EntityKey) (e : Value entity) (p : Path) (facts : List Fact)
    (cells : HasCells answer e) (h : Breaks rule (place.Entity key p) facts) (all : AllHold answer facts) where
  -- a fact that is a cell in the item of the place, and given
  from_cell : (k : ℕ) (c : Cite) (t : Slot) → has_item (way p.slot) ≡ true → slice_get (cites_of rule) k ≡ Some c → here_slot p.slot c ≡ Some t → same_list p.slot (Some t) ≡ true
      → is_given (value_at (values_of facts) k) ≡ true → p.index < places_at e p.slot
  from_cell k c t x q s m g =
      let there = here_is answer key p [] (cites_of rule) facts k c t x h.formed all q s in
      let both = and_parts (list_number t == list_number p.slot) (has_item (way t)) m in
      let path : path_at t p.index ≡ record { slot = t; index = p.index } = ap (λ b. let r : Path = record { slot = t; index = cond b p.index 0 } in r) both.1 in
      let cell : Some (entity_cell e t p.index) ≡ Some (value_at (values_of facts) k) = sym (cells (record { slot = t; index = p.index })) ∙ ap (λ r. answer (ask.Cell r)) (sym path) ∙ there in
      let same : entity_cell e t p.index ≡ value_at (values_of facts) k = cc in
      let below = cell_there t p.index e both.1 (ap is_given same ∙ g) in
      subst (λ n. p.index < n) (places_number t e ∙ ap (places_of e) (eqb-true (list_number t) (list_number p.slot) both.0) ∙ sym (places_number p.slot e)) below

  from_cite : (k : ℕ) (o : Option Cite) → has_item (way p.slot) ≡ true → slice_get (cites_of rule) k ≡ o → is_here p.slot o ≡ true → is_given (value_at (values_of facts) k) ≡ true → p.index < places_at e p.slot
  from_cite k None x q m g = cc
  from_cite k (Some c) x q m g = on (here_slot p.slot c) refl m
    where
      on : (o : Option Slot) → here_slot p.slot c ≡ o → same_list p.slot o ≡ true → p.index < places_at e p.slot
      on None s n = cc
      on (Some t) s n = from_cell k c t x q s n g

  one_anchors : (k : ℕ) → has_item (way p.slot) ≡ true → anchors rule p.slot k ≡ true → p.index < places_at e p.slot
  one_anchors k x a =
      let q = and_parts (is_here p.slot (slice_get (cites_of rule) k)) (list_any (gives k) (test_of rule) || list_any (keyed k) (cites_of rule)) a in
      from_cite k (slice_get (cites_of rule) k) x refl q.0 (elim (or_cases (list_any (gives k) (test_of rule)) (list_any (keyed k) (cites_of rule)) q.1) [
        | inl m ↦ by_test (place.Entity key p) k (test_of rule) (values_of facts) m h.broken
        | inr m ↦ by_key (place.Entity key p) k [] (cites_of rule) facts m h.formed
      ])

  two_anchor : has_item (way p.slot) ≡ true → anchors_two rule p.slot ≡ true → p.index < places_at e p.slot
  two_anchor x a =
      let q = and_parts (is_here p.slot (slice_get (cites_of rule) 2) && is_here p.slot (slice_get (cites_of rule) 3)) (list_any (gives_one 2 3) (test_of rule)) a in
      let r = and_parts (is_here p.slot (slice_get (cites_of rule) 2)) (is_here p.slot (slice_get (cites_of rule) 3)) q.0 in
      elim (or_cases (is_given (value_at (values_of facts) 2)) (is_given (value_at (values_of facts) 3)) (by_later (place.Entity key p) (test_of rule) (values_of facts) q.1 h.broken)) [
        | inl g ↦ from_cite 2 (slice_get (cites_of rule) 2) x refl r.0 g
        | inr g ↦ from_cite 3 (slice_get (cites_of rule) 3) x refl r.1 g
      ]

  -- the item of the place is there
  item_there : p.index < places_at e p.slot
  item_there =
      elim (has_item (way p.slot)) as (λ b. has_item (way p.slot) ≡ b → p.index < places_at e p.slot) [
        | false ↦ λ x. let z : p.index ≡ 0 = h.place.plain x in let n = one_place p.slot e x in omega (arith, z, n)
        | true ↦ λ x.
            let a : anchored rule p.slot ≡ true = at_member (anchored rule) (slots_of rule) h.place.listed.0 p.slot h.place.listed.1 h.place.listed.2 (all_anchored rule) in
            let some : (list_any (anchors rule p.slot) numbers || anchors_two rule p.slot) ≡ true = subst (λ b. (not b || (list_any (anchors rule p.slot) numbers || anchors_two rule p.slot)) ≡ true) x a in
            elim (or_cases (list_any (anchors rule p.slot) numbers) (anchors_two rule p.slot) some) [
              | inl m ↦ let k = one_of (anchors rule p.slot) numbers m in one_anchors k.at x k.is
              | inr m ↦ two_anchor x m
            ]
      ] refl

-- ---- the finding is among those of the entity
pub among_left : {A : Type 0} (x : A) (xs ys : List A) → IsAmong x xs → IsAmong x (xs ++ ys)
among_left x [] ys h = absurd h
among_left x (y ∷ xs) ys (inl e) = inl e
among_left x (y ∷ xs) ys (inr h) = inr (among_left x xs ys h)

pub among_right : {A : Type 0} (x : A) (xs ys : List A) → IsAmong x ys → IsAmong x (xs ++ ys)
among_right x [] ys h = h
among_right x (y ∷ xs) ys h = inr (among_right x xs ys h)

among_below : (rule : RuleId) (answer : Ask → Option CellValue) (key : EntityKey) (p : Path) (x : Found) → found_at rule answer (place.Entity key p) ≡ x ∷ [] → (n : ℕ) → p.index < n → IsAmong x (found_below rule answer key p.slot n)
among_below rule answer key p x h zero l = absurd (omega (arith, l))
among_below rule answer key p x h (suc i) l =
    elim (eq-or-lt_of_le (up i p.index l)) [
      | inl e ↦ among_right x (found_below rule answer key p.slot i) (found_at rule answer (place.Entity key (record { slot = p.slot; index = i })))
          (subst (λ j. IsAmong x (found_at rule answer (place.Entity key (record { slot = p.slot; index = j })))) e (subst (IsAmong x) (sym h) (inl refl)))
      | inr lt ↦ among_left x (found_below rule answer key p.slot i) (found_at rule answer (place.Entity key (record { slot = p.slot; index = i }))) (among_below rule answer key p x h i lt)
    ]
  where
    up : (i j : ℕ) → j < suc i → j ≤ i
    up i j h = omega (arith, h)

among_in : (rule : RuleId) (answer : Ask → Option CellValue) (key : EntityKey) (e : Value entity) (p : Path) (x : Found) → IsAmong x (found_below rule answer key p.slot (places_at e p.slot))
    → (slots : List Slot) (i : ℕ) → i < length slots → slice_index_or slots i p.slot ≡ p.slot → IsAmong x (found_in rule answer key e slots)
among_in rule answer key e p x h [] i l m = absurd (omega (arith, l))
among_in rule answer key e p x h (s ∷ slots) zero l m =
    among_left x (found_below rule answer key s (places_at e s)) (found_in rule answer key e slots) (subst (λ t. IsAmong x (found_below rule answer key t (places_at e t))) (sym m) h)
among_in rule answer key e p x h (s ∷ slots) (suc i) l m =
    among_right x (found_below rule answer key s (places_at e s)) (found_in rule answer key e slots) (among_in rule answer key e p x h slots i (omega (arith, l)) m)

pub evidence_among : (answer : Ask → Option CellValue) (rule : RuleId) (key : EntityKey) (e : Value entity) (p : Path) (facts : List Fact) → HasCells answer e → Breaks rule (place.Entity key p) facts → AllHold answer facts
    → IsAmong (record { rule = rule; place = place.Entity key p; facts = facts }) (found_by rule answer key e)
evidence_among answer rule key e p facts cells h all =
    among_in rule answer key e p (record { rule = rule; place = place.Entity key p; facts = facts })
    (among_below rule answer key p (record { rule = rule; place = place.Entity key p; facts = facts }) (evidence_found answer rule (place.Entity key p) facts h all) (places_at e p.slot) (item_there answer rule key e p facts cells h all))
    (slots_of rule) h.place.listed.0 h.place.listed.1 h.place.listed.2
