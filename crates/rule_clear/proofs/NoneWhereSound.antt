-- Stop time updates that are sound break no rule within a message, apart from the one that wants their schedule_relationship.
use Rattle.std.proofs.Common.{ap, arith}
use Rattle.std.specs.Prelude.{◌≡◌, ℕ, zero, suc, Bool, true, false, not, ◌&&◌, ◌||◌, ◌-◌, [], Option, refl}
use Rattle.feed_values.specs.Schema.{Value}
use Rattle.feed_values.specs.Messages.{entity}
use Rattle.feed_values.specs.Cells.{entity_cell}
use Rattle.feed_values.specs.declared.slot.Slot.{Slot}
use Rattle.feed_values.specs.declared.slot.Slot.TheVariants.{S31, S32, S33, S34, S35, S36, S37, S38, S39, S40}
use Rattle.feed_values.specs.declared.cell_value.CellValue.{CellValue}
use Rattle.timetable.specs.Timetables.{Tables}
use Rattle.rule_table.specs.declared.ask.Ask.{Ask}
use Rattle.rule_table.specs.declared.ask.Ask.TheVariants as ask
use Rattle.rule_table.specs.declared.key.EntityKey.{EntityKey}
use Rattle.rule_table.specs.declared.place.Place.TheVariants as place
use Rattle.rule_table.specs.declared.rule.RuleId.{RuleId}
use Rattle.rule_table.specs.declared.rule.RuleId.TheVariants.{E001, E002, E022, E025, E036, E037, E040, E042, E043, E044}
use Rattle.rule_history.specs.Answered.{local_answer}
use Rattle.rule_table.specs.Passed.{given_or, is_given, is_number}
use Rattle.rule_table.specs.CitedLaws.{both_same}
use Rattle.rule_table.specs.Judged.{found_at, found_below, places_at}
use Rattle.rule_table.specs.ClearSlots.{IsClear}
use Rattle.rule_clear.specs.Clear.{where_sound}
use Rattle.rule_table.specs.Groups.{Each}
use Rattle.rule_clear.specs.Sound.{no_time, at_most, below, equal, IsSound, Follows, SoundBelow}
use Rattle.rule_table.proofs.NoneThere.{after, none_found}

-- ---- conditions that are false
alone : (b : Bool) → b ≡ false → (b && true) ≡ false
alone b h = ap (λ x. x && true) h

both : (a b : Bool) → (a && b) ≡ false → (a && (b && true)) ≡ false
both true b h = alone b h
both false b h = refl

either_named : (g a b : Bool) → (a || b) ≡ true → (g && (not a && (not b && true))) ≡ false
either_named false a b h = refl
either_named true true b h = refl
either_named true false true h = refl
either_named true false false h = absurd (cc h)

either_told : (g s n a d : Bool) → (s || (n || (a || d))) ≡ true → (g && (not s && (not n && (not a && (not d && true))))) ≡ false
either_told false s n a d h = refl
either_told true true n a d h = refl
either_told true false true a d h = refl
either_told true false false true d h = refl
either_told true false false false true h = refl
either_told true false false false false h = absurd (cc h)

either_timed : (g a b : Bool) → (not g || (a || b)) ≡ true → (g && (not a && (not b && true))) ≡ false
either_timed false a b h = refl
either_timed true true b h = refl
either_timed true false true h = refl
either_timed true false false h = absurd (cc h)

-- ---- the rules at an index where the update is sound
module _ (t : Option Tables) (key : EntityKey) (e : Value entity) where
  abbrev here : Ask → Option CellValue
  here = local_answer t key e

  abbrev own : Slot → ℕ → Ask
  own s i = ask.Cell (record { slot = s; index = i })

  abbrev None_at : RuleId → Slot → ℕ → Type 0
  None_at rule s i = found_at rule here (place.Entity key (record { slot = s; index = i })) ≡ []

  no_E001_arrival : (i : ℕ) → IsSound e i → None_at E001 S37 i
  no_E001_arrival i k = none_found here E001 key S37 i (after here _ (own S37 i) (entity_cell e S37 i) refl (alone (no_time (entity_cell e S37 i)) k.arrival_time))

  no_E001_departure : (i : ℕ) → IsSound e i → None_at E001 S40 i
  no_E001_departure i k = none_found here E001 key S40 i (after here _ (own S40 i) (entity_cell e S40 i) refl (alone (no_time (entity_cell e S40 i)) k.departure_time))

  no_E025 : (i : ℕ) → IsSound e i → None_at E025 S40 i
  no_E025 i k =
      none_found here E025 key S40 i
      (after here _ (own S37 i) (entity_cell e S37 i) refl
      (after here _ (own S40 i) (entity_cell e S40 i) refl (alone (below (entity_cell e S40 i) (entity_cell e S37 i)) k.in_order)))

  no_E040 : (i : ℕ) → IsSound e i → None_at E040 S31 i
  no_E040 i k =
      none_found here E040 key S31 i
      (after here _ (own S31 i) (entity_cell e S31 i) refl
      (after here _ (own S32 i) (entity_cell e S32 i) refl
      (after here _ (own S33 i) (entity_cell e S33 i) refl
      (either_named (is_given (entity_cell e S31 i)) (is_given (entity_cell e S32 i)) (is_given (entity_cell e S33 i)) k.named))))

  no_E042_arrival : (i : ℕ) → IsSound e i → None_at E042 S35 i
  no_E042_arrival i k =
      none_found here E042 key S35 i
      (after here _ (own S34 i) (entity_cell e S34 i) refl
      (after here _ (own S35 i) (entity_cell e S35 i) refl (both (is_number 2 (entity_cell e S34 i)) (is_given (entity_cell e S35 i)) k.no_arrival)))

  no_E042_departure : (i : ℕ) → IsSound e i → None_at E042 S38 i
  no_E042_departure i k =
      none_found here E042 key S38 i
      (after here _ (own S34 i) (entity_cell e S34 i) refl
      (after here _ (own S38 i) (entity_cell e S38 i) refl (both (is_number 2 (entity_cell e S34 i)) (is_given (entity_cell e S38 i)) k.no_departure)))

  no_E043 : (i : ℕ) → IsSound e i → None_at E043 S31 i
  no_E043 i k =
      none_found here E043 key S31 i
      (after here _ (own S31 i) (entity_cell e S31 i) refl
      (after here _ (own S34 i) (entity_cell e S34 i) refl
      (after here _ (own S35 i) (entity_cell e S35 i) refl
      (after here _ (own S38 i) (entity_cell e S38 i) refl
      (either_told (is_given (entity_cell e S31 i)) (is_number 1 (entity_cell e S34 i)) (is_number 2 (entity_cell e S34 i)) (is_given (entity_cell e S35 i)) (is_given (entity_cell e S38 i)) k.told)))))

  no_E044_arrival : (i : ℕ) → IsSound e i → None_at E044 S35 i
  no_E044_arrival i k =
      none_found here E044 key S35 i
      (after here _ (own S35 i) (entity_cell e S35 i) refl
      (after here _ (own S36 i) (entity_cell e S36 i) refl
      (after here _ (own S37 i) (entity_cell e S37 i) refl
      (either_timed (is_given (entity_cell e S35 i)) (is_given (entity_cell e S36 i)) (is_given (entity_cell e S37 i)) k.arrives))))

  no_E044_departure : (i : ℕ) → IsSound e i → None_at E044 S38 i
  no_E044_departure i k =
      none_found here E044 key S38 i
      (after here _ (own S38 i) (entity_cell e S38 i) refl
      (after here _ (own S39 i) (entity_cell e S39 i) refl
      (after here _ (own S40 i) (entity_cell e S40 i) refl
      (either_timed (is_given (entity_cell e S38 i)) (is_given (entity_cell e S39 i)) (is_given (entity_cell e S40 i)) k.departs))))

  -- ---- and after the one before
  no_E002 : (i : ℕ) → Follows e i → None_at E002 S32 i
  no_E002 zero k = refl
  no_E002 (suc i) k =
      none_found here E002 key S32 (suc i)
      (after here _ (own S32 (suc i - 1)) (entity_cell e S32 (suc i - 1)) refl
      (after here _ (own S32 (suc i)) (entity_cell e S32 (suc i)) refl (alone (at_most (entity_cell e S32 (suc i)) (entity_cell e S32 (suc i - 1))) (k (omega arith)).rises)))

  no_E036 : (i : ℕ) → Follows e i → None_at E036 S32 i
  no_E036 zero k = refl
  no_E036 (suc i) k =
      none_found here E036 key S32 (suc i)
      (after here _ (own S32 (suc i - 1)) (entity_cell e S32 (suc i - 1)) refl
      (after here _ (own S32 (suc i)) (entity_cell e S32 (suc i)) refl (alone (equal (entity_cell e S32 (suc i - 1)) (entity_cell e S32 (suc i))) (k (omega arith)).differs)))

  no_E037 : (i : ℕ) → Follows e i → None_at E037 S33 i
  no_E037 zero k = refl
  no_E037 (suc i) k =
      none_found here E037 key S33 (suc i)
      (after here _ (own S33 (suc i - 1)) (entity_cell e S33 (suc i - 1)) refl
      (after here _ (own S33 (suc i)) (entity_cell e S33 (suc i)) refl (alone (equal (entity_cell e S33 (suc i - 1)) (entity_cell e S33 (suc i))) (k (omega arith)).moves)))

  no_E022 : (i : ℕ) → Follows e i → None_at E022 S31 i
  no_E022 zero k = refl
  no_E022 (suc i) k =
      none_found here E022 key S31 (suc i)
      (after here _ (own S37 (suc i - 1)) (entity_cell e S37 (suc i - 1)) refl
      (after here _ (own S40 (suc i - 1)) (entity_cell e S40 (suc i - 1)) refl
      (after here _ (own S37 (suc i)) (entity_cell e S37 (suc i)) refl
      (after here _ (own S40 (suc i)) (entity_cell e S40 (suc i)) refl
      (alone (at_most (given_or (entity_cell e S40 (suc i)) (entity_cell e S37 (suc i))) (given_or (entity_cell e S37 (suc i - 1)) (entity_cell e S40 (suc i - 1)))) (k (omega arith)).later)))))

  -- ---- at all indices
  below_all : (rule : RuleId) (s : Slot) → ((i : ℕ) → Follows e i × IsSound e i → None_at rule s i) → (n : ℕ) → SoundBelow e n → found_below rule here key s n ≡ []
  below_all rule s h zero k = refl
  below_all rule s h (suc n) k = both_same (below_all rule s h n k.0) (h n k.1)

  pub all_clear : SoundBelow e (places_at e S31) → Each (IsClear here key e) where_sound
  all_clear k = (
    below_all E001 S37 (λ i h. no_E001_arrival i h.1) (places_at e S37) k,
    (
      below_all E001 S40 (λ i h. no_E001_departure i h.1) (places_at e S40) k,
      (
        below_all E002 S32 (λ i h. no_E002 i h.0) (places_at e S32) k,
        (
          below_all E022 S31 (λ i h. no_E022 i h.0) (places_at e S31) k,
          (
            below_all E025 S40 (λ i h. no_E025 i h.1) (places_at e S40) k,
            (
              below_all E036 S32 (λ i h. no_E036 i h.0) (places_at e S32) k,
              (
                below_all E037 S33 (λ i h. no_E037 i h.0) (places_at e S33) k,
                (
                  below_all E040 S31 (λ i h. no_E040 i h.1) (places_at e S31) k,
                  (
                    below_all E042 S35 (λ i h. no_E042_arrival i h.1) (places_at e S35) k,
                    (
                      below_all E042 S38 (λ i h. no_E042_departure i h.1) (places_at e S38) k,
                      (
                        below_all E043 S31 (λ i h. no_E043 i h.1) (places_at e S31) k,
                        (
                          below_all E044 S35 (λ i h. no_E044_arrival i h.1) (places_at e S35) k,
                          (
                            below_all E044 S38 (λ i h. no_E044_departure i h.1) (places_at e S38) k,
                            tt,
                          ),
                        ),
                      ),
                    ),
                  ),
                ),
              ),
            ),
          ),
        ),
      ),
    ),
  )
