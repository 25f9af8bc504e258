-- Stop time updates that keep to the timetable break none of its rules at their stops and times.
use Rattle.std.proofs.Common.{ap, ◌∙◌}
use Rattle.std.specs.Prelude.{◌≡◌, ℕ, zero, suc, Bool, true, false, not, ◌&&◌, ◌||◌, List, [], ◌∷◌, Option, Some, None, option_and_then, is_some, pos, refl}
use Rattle.feed_values.specs.Schema.{Value}
use Rattle.feed_values.specs.Messages.{entity}
use Rattle.feed_values.specs.Cells.{entity_cell, text_cell}
use Rattle.feed_values.specs.declared.slot.Slot.{Slot}
use Rattle.feed_values.specs.declared.slot.Slot.TheVariants.{S21, S32, S33, S35, S36, S37, S38, S39, S40}
use Rattle.feed_values.specs.declared.cell_value.CellValue.{CellValue}
use Rattle.feed_values.specs.declared.cell_value.CellValue.TheVariants as value
use Rattle.timetable.specs.Timetables.{Tables}
use Rattle.rule_table.specs.declared.ask.Ask.{Ask}
use Rattle.rule_table.specs.declared.ask.Ask.TheVariants as ask
use Rattle.rule_table.specs.declared.key.EntityKey.{EntityKey}
use Rattle.rule_table.specs.declared.place.Place.{Place}
use Rattle.rule_table.specs.declared.place.Place.TheVariants as place
use Rattle.rule_table.specs.declared.row.Cite.TheVariants as cite
use Rattle.rule_table.specs.declared.row.Atom.{Atom}
use Rattle.rule_table.specs.declared.rule.RuleId.{RuleId}
use Rattle.rule_table.specs.declared.rule.RuleId.TheVariants.{E011, E015, E045, E046, E051}
use Rattle.rule_table.specs.Answers.{yes, natural_cell}
use Rattle.rule_history.specs.Answered.{local_answer, trip_known, time_at, stop_at}
use Rattle.rule_table.specs.Asked.{text_in, number_in, sequence_of}
use Rattle.rule_table.specs.Passed.{is_given, same_cell, is_number, passes}
use Rattle.rule_table.specs.Cited.{value_from, value_then}
use Rattle.rule_table.specs.CitedLaws.{both_same}
use Rattle.rule_table.specs.Table.{test_of}
use Rattle.rule_table.specs.Judged.{found_at, found_below, places_at}
use Rattle.rule_table.specs.ClearSlots.{IsClear}
use Rattle.rule_clear.specs.Clear.{where_kept}
use Rattle.rule_table.specs.Groups.{Each}
use Rattle.rule_clear.specs.Keeping.{IsHalt, differ, has_time, KeepsTrip, Keeps, KeepBelow}
use Rattle.rule_table.proofs.NoneThere.{after, after_one, after_both, none_found}

-- ---- conditions that are false
never : (b c : Bool) → (b && false && c && true) ≡ false
never true c = refl
never false c = refl

same_stop : (v : CellValue) (stop : Option (List ℕ)) → ((s : List ℕ) → stop ≡ Some s → differ v (value.Text s) ≡ false) → (differ v (text_cell stop) && true) ≡ false
same_stop v None h = never (is_given v) (not (same_cell v value.Missing))
same_stop v (Some s) h = ap (λ b. b && true) (h s refl)

known_stop : (known : Bool) (stop : Option (List ℕ)) → (known ≡ true → is_some stop ≡ true) → (is_number 1 (yes known) && (not (is_given (text_cell stop)) && true)) ≡ false
known_stop true None h = absurd (cc (h refl))
known_stop true (Some s) h = refl
known_stop false stop h = refl

timed : (delay time : Bool) (stop : Option (List ℕ)) (scheduled : Option ℕ) → (is_some stop ≡ true → (is_some scheduled || (not delay || time)) ≡ true)
    → (delay && (not time && (is_given (text_cell stop) && (not (is_given (natural_cell scheduled)) && true)))) ≡ false
timed false time stop scheduled h = refl
timed true true stop scheduled h = refl
timed true false None scheduled h = refl
timed true false (Some s) (Some n) h = refl
timed true false (Some s) None h = absurd (cc (h refl))

-- ---- what keeping to the timetable says of what is asked
pub record Kept (t : Tables) (e : Value entity) (i : ℕ) (trip : List ℕ) (n : ℕ) : Type 0 where
  known : trip_known t trip ≡ true → is_some (stop_at t trip n) ≡ true
  same : (stop : List ℕ) → stop_at t trip n ≡ Some stop → differ (entity_cell e S33 i) (value.Text stop) ≡ false
  arrives : is_some (stop_at t trip n) ≡ true → has_time (option_and_then (λ time. time.arrival) (time_at t trip n)) (entity_cell e S36 i) (entity_cell e S37 i) ≡ true
  departs : is_some (stop_at t trip n) ≡ true → has_time (option_and_then (λ time. time.departure) (time_at t trip n)) (entity_cell e S39 i) (entity_cell e S40 i) ≡ true

kept_trip : (t : Tables) (e : Value entity) (i : ℕ) (trip : List ℕ) (n : ℕ) → (trip_known t trip ≡ true → KeepsTrip t e i trip n) → Kept t e i trip n
kept_trip t e i trip n h = of (trip_known t trip) refl
  where
    of : (known : Bool) → trip_known t trip ≡ known → Kept t e i trip n
    of true k =
        let found = h k in
        let time : time_at t trip n ≡ Some found.time = rw k found.at in
        record {
          known = λ _. rw time found.keeps.placed;
          same = rw time found.keeps.same;
          arrives = λ _. rw time found.keeps.arrives;
          departs = λ _. rw time found.keeps.departs;
        }
    of false k =
        let time : time_at t trip n ≡ None = rw k refl in
        record {
          known = λ d. absurd (cc (k, d));
          same = λ stop d. absurd (cc (time, d));
          arrives = λ d. absurd (cc (time, d));
          departs = λ d. absurd (cc (time, d));
        }

-- ---- the rules at an index where the update keeps to the timetable
module _ (t : Tables) (key : EntityKey) (e : Value entity) (i : ℕ) where
  abbrev here : Ask → Option CellValue
  here = local_answer (Some t) key e

  abbrev own : Slot → Ask
  own s = ask.Cell (record { slot = s; index = i })

  abbrev own_trip : Ask
  own_trip = ask.Cell (record { slot = S21; index = 0 })

  halted : (at : Place) (atoms : List Atom) → ((s : List ℕ) → passes at atoms (value.Text s ∷ value.Number (pos 0) ∷ []) ≡ false)
      → (v : CellValue) → IsHalt t v → value_then (value_from here at (v ∷ []) (cite.StopKind 0)) (λ w. passes at atoms (v ∷ w ∷ [])) ≡ false
  halted at atoms h value.Missing k = refl
  halted at atoms h (value.Number n) k = refl
  halted at atoms h (value.Text s) k = after here _ (ask.StopKind s) (value.Number (pos 0)) (ap (λ n. let found : Option CellValue = Some (natural_cell n) in found) (k s refl)) (h s)

  no_E011 : Keeps t e i → found_at E011 here (place.Entity key (record { slot = S33; index = i })) ≡ []
  no_E011 k =
      let at = place.Entity key (record { slot = S33; index = i }) in
      none_found here E011 key S33 i (after here _ (own S33) (entity_cell e S33 i) refl (halted at (test_of E011) (λ s. refl) (entity_cell e S33 i) k.stop))

  no_E015 : Keeps t e i → found_at E015 here (place.Entity key (record { slot = S33; index = i })) ≡ []
  no_E015 k =
      let at = place.Entity key (record { slot = S33; index = i }) in
      none_found here E015 key S33 i (after here _ (own S33) (entity_cell e S33 i) refl (halted at (test_of E015) (λ s. refl) (entity_cell e S33 i) k.stop))

  no_E045 : Keeps t e i → found_at E045 here (place.Entity key (record { slot = S33; index = i })) ≡ []
  no_E045 k =
      none_found here E045 key S33 i
      (after here _ own_trip (entity_cell e S21 0) refl
      (after here _ (own S32) (entity_cell e S32 i) refl
      (after here _ (own S33) (entity_cell e S33 i) refl
      (after_both here _ ask.StopAt (text_in (entity_cell e S21 0)) (sequence_of (number_in (entity_cell e S32 i))) (λ trip n p q.
      after here _ (ask.StopAt trip n) (text_cell (stop_at t trip n)) refl (same_stop (entity_cell e S33 i) (stop_at t trip n) (kept_trip t e i trip n (k.time trip n p q)).same))))))

  no_E051 : Keeps t e i → found_at E051 here (place.Entity key (record { slot = S32; index = i })) ≡ []
  no_E051 k =
      none_found here E051 key S32 i
      (after here _ own_trip (entity_cell e S21 0) refl
      (after here _ (own S32) (entity_cell e S32 i) refl
      (after_one here _ ask.TripKnown (text_in (entity_cell e S21 0)) (λ known p.
      after here _ (ask.TripKnown known) (yes (trip_known t known)) refl
      (after_both here _ ask.StopAt (text_in (entity_cell e S21 0)) (sequence_of (number_in (entity_cell e S32 i))) (λ trip n q r.
      let one : trip ≡ known = cc in
      after here _ (ask.StopAt trip n) (text_cell (stop_at t trip n)) refl
      (known_stop (trip_known t known) (stop_at t trip n) (λ h. (kept_trip t e i trip n (k.time trip n q r)).known (ap (trip_known t) one ∙ h)))))))))

  no_E046_arrival : Keeps t e i → found_at E046 here (place.Entity key (record { slot = S35; index = i })) ≡ []
  no_E046_arrival k =
      none_found here E046 key S35 i
      (after here _ own_trip (entity_cell e S21 0) refl
      (after here _ (own S32) (entity_cell e S32 i) refl
      (after here _ (own S36) (entity_cell e S36 i) refl
      (after here _ (own S37) (entity_cell e S37 i) refl
      (after_both here _ ask.StopAt (text_in (entity_cell e S21 0)) (sequence_of (number_in (entity_cell e S32 i))) (λ trip n p q.
      after here _ (ask.StopAt trip n) (text_cell (stop_at t trip n)) refl
      (after_both here _ ask.ArrivalAt (text_in (entity_cell e S21 0)) (sequence_of (number_in (entity_cell e S32 i))) (λ same m r s.
      let one : same ≡ trip = cc in
      let other : m ≡ n = cc in
      after here _ (ask.ArrivalAt same m) (natural_cell (option_and_then (λ time. time.arrival) (time_at t same m))) refl
      (rw (one, other) (timed (is_given (entity_cell e S36 i)) (is_given (entity_cell e S37 i)) (stop_at t trip n) (option_and_then (λ time. time.arrival) (time_at t trip n)) (kept_trip t e i trip n (k.time trip n p q)).arrives))))))))))

  no_E046_departure : Keeps t e i → found_at E046 here (place.Entity key (record { slot = S38; index = i })) ≡ []
  no_E046_departure k =
      none_found here E046 key S38 i
      (after here _ own_trip (entity_cell e S21 0) refl
      (after here _ (own S32) (entity_cell e S32 i) refl
      (after here _ (own S39) (entity_cell e S39 i) refl
      (after here _ (own S40) (entity_cell e S40 i) refl
      (after_both here _ ask.StopAt (text_in (entity_cell e S21 0)) (sequence_of (number_in (entity_cell e S32 i))) (λ trip n p q.
      after here _ (ask.StopAt trip n) (text_cell (stop_at t trip n)) refl
      (after_both here _ ask.DepartureAt (text_in (entity_cell e S21 0)) (sequence_of (number_in (entity_cell e S32 i))) (λ same m r s.
      let one : same ≡ trip = cc in
      let other : m ≡ n = cc in
      after here _ (ask.DepartureAt same m) (natural_cell (option_and_then (λ time. time.departure) (time_at t same m))) refl
      (rw (one, other) (timed (is_given (entity_cell e S39 i)) (is_given (entity_cell e S40 i)) (stop_at t trip n) (option_and_then (λ time. time.departure) (time_at t trip n)) (kept_trip t e i trip n (k.time trip n p q)).departs))))))))))

-- ---- at all indices
module _ (t : Tables) (key : EntityKey) (e : Value entity) where
  below : (rule : RuleId) (s : Slot) → ((i : ℕ) → Keeps t e i → found_at rule (local_answer (Some t) key e) (place.Entity key (record { slot = s; index = i })) ≡ [])
      → (n : ℕ) → KeepBelow t e n → found_below rule (local_answer (Some t) key e) key s n ≡ []
  below rule s h zero k = refl
  below rule s h (suc n) k = both_same (below rule s h n k.0) (h n k.1)

  pub all_clear : KeepBelow t e (places_at e S33) → Each (IsClear (local_answer (Some t) key e) key e) where_kept
  all_clear k = (
    below E011 S33 (no_E011 t key e) (places_at e S33) k,
    (
      below E015 S33 (no_E015 t key e) (places_at e S33) k,
      (
        below E045 S33 (no_E045 t key e) (places_at e S33) k,
        (
          below E046 S35 (no_E046_arrival t key e) (places_at e S35) k,
          (
            below E046 S38 (no_E046_departure t key e) (places_at e S38) k,
            (
              below E051 S32 (no_E051 t key e) (places_at e S32) k,
              tt,
            ),
          ),
        ),
      ),
    ),
  )
