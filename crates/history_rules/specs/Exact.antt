-- A bound rule stands at a timestamp exactly where it is given and above the rule's bound, and nowhere else.
use Rattle.std.specs.Prelude.{◌≡◌, ◌↔◌, ℕ, ◌+◌, ◌<◌, ◌^◌, ℤ, pos, negsuc, int_le, ◌<ℤ◌, ◌+ℤ◌, ◌==◌, Bool, true, false, not, ◌&&◌, T, List, [], ◌∷◌, ◌++◌, Option, Some, None, cond, refl}
use Rattle.std.proofs.Common.{inl, inr, sym, ap, ◌∙◌, subst, arith, leb}
use borrow.Author.Tests.{ltb-true, lt-ltb, leb-false, lt-leb, le-leb, not-true, clash}
use Rattle.feed_values.specs.declared.slot.Slot.{Slot}
use Rattle.feed_values.specs.declared.slot.Slot.TheVariants.{S3, S29, S59}
use Rattle.feed_values.specs.declared.path.Path.{Path}
use Rattle.feed_values.specs.declared.cell_value.CellValue.{CellValue}
use Rattle.feed_values.specs.declared.cell_value.CellValue.TheVariants as value
use Rattle.feed_values.specs.Schema.{Value}
use Rattle.feed_values.specs.Messages.{entity}
use Rattle.feed_values.specs.Cells.{entity_cell, number_cell}
use Rattle.rule_table.specs.declared.rule.RuleId.{RuleId}
use Rattle.rule_table.specs.declared.rule.RuleId.TheVariants.{E012, E050}
use Rattle.rule_table.specs.declared.ask.Ask.{Ask}
use Rattle.rule_table.specs.declared.ask.Ask.TheVariants as ask
use Rattle.rule_table.specs.declared.fact.Fact.{Fact}
use Rattle.rule_table.specs.declared.key.EntityKey.{EntityKey}
use Rattle.rule_table.specs.declared.place.Place.{Place}
use Rattle.rule_table.specs.declared.place.Place.TheVariants as place
use Rattle.rule_table.specs.Order.{slot_number}
use Rattle.rule_table.specs.Asked.{in_range, number_in}
use Rattle.rule_table.specs.Passed.{numbers_are}
use Rattle.rule_table.specs.Cited.{and_then, answered}
use Rattle.rule_table.specs.Answers.{bound_answer}
use Rattle.rule_table.specs.Found.{Found}
use Rattle.rule_table.specs.Judged.{found_of, found_at, found_all}
use Rattle.rule_table.specs.Groups.{Each, IsUnder, has_rule}
use Rattle.rule_table.specs.GroupLaws.{Stands, at_place, row_own, all_own, each_append, each_weaken}
use Rattle.rule_table.specs.BothLaws.{stands_left, stands_right, stands_either, rule_of}
use Rattle.rule_table.specs.Bounds.{bound_at, IsAbove, StandsAt, AreHeld, IsStamp, AreAtStamps, is_timestamp, stamp_at}
use Rattle.history_rules.specs.Rules.{bound_rules, bound_of}

-- ---- numbers
is_true : (b : Bool) → T b → b ≡ true
is_true true h = refl
is_true false h = absurd h

to_true : (b : Bool) → b ≡ true → T b
to_true true h = tt
to_true false h = cc

above_is : (n b : ℤ) → (not (int_le n b) && true) ≡ true ↔ b <ℤ n
above_is (pos n) (pos b) = (λ h. record { lt = to_true _ (lt-ltb b n (leb-false n b (not-true (leb n b) (first (not (leb n b)) h)))) }, λ r. ap (λ x. not x && true) (lt-leb n b (ltb-true b n (is_true _ r.lt))))
  where
    first : (x : Bool) → (x && true) ≡ true → x ≡ true
    first true h = refl
    first false h = cc
above_is (pos n) (negsuc b) = (λ h. record { lt = tt }, λ r. refl)
above_is (negsuc n) (pos b) = (λ h. cc, λ r. absurd r.lt)
above_is (negsuc n) (negsuc b) = (λ h. record { lt = to_true _ (lt-ltb n b (leb-false b n (not-true (leb b n) (first (not (leb b n)) h)))) }, λ r. ap (λ x. not x && true) (lt-leb b n (ltb-true n b (is_true _ r.lt))))
  where
    first : (x : Bool) → (x && true) ≡ true → x ≡ true
    first true h = refl
    first false h = cc

-- the test of E012: above the header's timestamp, where both are given
header_test : (t : Option ℤ) (c : CellValue) → (numbers_are (λ x y. not (int_le y x)) (number_in (number_cell t)) (number_in c) && true) ≡ true ↔ IsAbove c t
header_test None value.Missing = (λ h. cc, λ h. absurd h)
header_test None (value.Number n) = (λ h. cc, λ h. absurd h)
header_test None (value.Text x) = (λ h. cc, λ h. absurd h)
header_test (Some b) value.Missing = (λ h. cc, λ h. absurd h)
header_test (Some b) (value.Number n) = above_is n b
header_test (Some b) (value.Text x) = (λ h. cc, λ h. absurd h)

-- that of E050: above the moment by more than 60 seconds
moment_test : (m : ℕ) (c : CellValue) → (numbers_are (λ x y. not (int_le x (y +ℤ pos 60))) (number_in c) (Some (pos m)) && true) ≡ true ↔ IsAbove c (Some (pos (m + 60)))
moment_test m value.Missing = (λ h. cc, λ h. absurd h)
moment_test m (value.Number n) = above_is n (pos (m + 60))
moment_test m (value.Text x) = (λ h. cc, λ h. absurd h)

-- ---- lists of findings
not_at : (rule : RuleId) (at : Place) (xs : List Found) → Each (Stands rule (λ q. q ≡ at)) xs → (r : RuleId) (other : Place) → (at ≡ other → ⊥) → StandsAt xs r other → ⊥
not_at rule at [] h r other d s = absurd s
not_at rule at (x ∷ xs) h r other d (inl e) = d (sym h.0.at ∙ e.1)
not_at rule at (x ∷ xs) h r other d (inr s) = not_at rule at xs h.1 r other d s

in_first : (xs ys : List Found) (r : RuleId) (at : Place) → (StandsAt ys r at → ⊥) → StandsAt (xs ++ ys) r at ↔ StandsAt xs r at
in_first xs ys r at none = (λ s. elim (stands_either xs ys r at s) [ inl l ↦ l | inr m ↦ absurd (none m) ], λ s. stands_left xs ys r at s)

in_second : (xs ys : List Found) (r : RuleId) (at : Place) → (StandsAt xs r at → ⊥) → StandsAt (xs ++ ys) r at ↔ StandsAt ys r at
in_second xs ys r at none = (λ s. elim (stands_either xs ys r at s) [ inl l ↦ absurd (none l) | inr m ↦ m ], λ s. stands_right xs ys r at s)

then_iff : {A B C : Type 0} → A ↔ B → B ↔ C → A ↔ C
then_iff p q = (λ a. q.0 (p.0 a), λ c. p.1 (q.1 c))

one_stands : (b : Bool) (f : Found) → StandsAt (cond b (f ∷ []) []) f.rule f.place ↔ (b ≡ true)
one_stands true f = (λ h. refl, λ h. inl (refl, refl))
one_stands false f = (λ h. absurd h, λ h. cc)

same_path : (k : EntityKey) (p q : Path) → place.Entity k p ≡ place.Entity k q → p ≡ q
same_path k p q h = cc

apart_29 : (k : EntityKey) → stamp_at k S29 ≡ stamp_at k S59 → ⊥
apart_29 k h = clash (ap (λ (p : Path). slot_number p.slot == 59) (same_path k (record { slot = S29; index = 0 }) (record { slot = S59; index = 0 }) h))

apart_59 : (k : EntityKey) → stamp_at k S59 ≡ stamp_at k S29 → ⊥
apart_59 k h = apart_29 k (sym h)

-- the fact of an answer within the bounds of all answers
fact_of : (q : Ask) (v : CellValue) → in_range v ≡ true → answered q (Some v) ≡ Some (record { ask = q; value = v })
fact_of q v h = ap (λ b. cond b (let some : Option Fact = Some (record { ask = q; value = v }) in some) None) h

moment_in : (m : ℕ) → m < 2 ^ 64 → in_range (value.Number (pos m)) ≡ true
moment_in m h = le-leb m 18446744073709551615 (omega (arith, h))

module _ (t : Option ℤ) (m : ℕ) (k : EntityKey) (e : Value entity) where
  abbrev answers : Ask → Option CellValue
  answers = bound_answer t m k e

  both_cited : (p q : Ask) (v w : CellValue) → in_range v ≡ true → in_range w ≡ true →
      and_then (answered p (Some v)) (λ f. and_then (answered q (Some w)) (λ g. let some : Option (List Fact) = Some (f ∷ g ∷ []) in some))
      ≡ Some (record { ask = p; value = v } ∷ record { ask = q; value = w } ∷ [])
  both_cited p q v w h m =
      ap (λ o. and_then o (λ f. and_then (answered q (Some w)) (λ g. let some : Option (List Fact) = Some (f ∷ g ∷ []) in some))) (fact_of p v h)
      ∙ ap (λ o. and_then o (λ g. let some : Option (List Fact) = Some (record { ask = p; value = v } ∷ g ∷ []) in some)) (fact_of q w m)

  abbrev cell_of : Slot → Ask
  cell_of s = ask.Cell (record { slot = s; index = 0 })

  abbrev StandsThere : RuleId → Slot → Option ℤ → Type 0
  StandsThere rule s b = StandsAt (found_at rule answers (stamp_at k s)) rule (stamp_at k s) ↔ IsAbove (entity_cell e s 0) b

  e012 : (s : Slot) → in_range (entity_cell e s 0) ≡ true → in_range (number_cell t) ≡ true → StandsThere E012 s t
  e012 s c h =
      let facts : List Fact = record { ask = cell_of s; value = entity_cell e s 0 } ∷ record { ask = ask.HeadNow S3; value = number_cell t } ∷ [] in
      subst (λ xs. StandsAt xs E012 (stamp_at k s) ↔ IsAbove (entity_cell e s 0) t)
      (sym (ap (found_of E012 (stamp_at k s)) (both_cited (cell_of s) (ask.HeadNow S3) (entity_cell e s 0) (number_cell t) c h)))
      (then_iff (one_stands _ (record { rule = E012; place = stamp_at k s; facts = facts })) (header_test t (entity_cell e s 0)))

  e050 : (s : Slot) → in_range (entity_cell e s 0) ≡ true → m < 2 ^ 64 → StandsThere E050 s (Some (pos (m + 60)))
  e050 s c h =
      let facts : List Fact = record { ask = cell_of s; value = entity_cell e s 0 } ∷ record { ask = ask.Moment; value = value.Number (pos m) } ∷ [] in
      subst (λ xs. StandsAt xs E050 (stamp_at k s) ↔ IsAbove (entity_cell e s 0) (Some (pos (m + 60))))
      (sym (ap (found_of E050 (stamp_at k s)) (both_cited (cell_of s) ask.Moment (entity_cell e s 0) (value.Number (pos m)) c (moment_in m h))))
      (then_iff (one_stands _ (record { rule = E050; place = stamp_at k s; facts = facts })) (moment_test m (entity_cell e s 0)))

  -- among the findings of one rule, those at one timestamp
  abbrev both : RuleId → List Found
  both rule = found_at rule answers (stamp_at k S29) ++ (found_at rule answers (stamp_at k S59) ++ [])

  at_first : (rule : RuleId) → StandsAt (both rule) rule (stamp_at k S29) ↔ StandsAt (found_at rule answers (stamp_at k S29)) rule (stamp_at k S29)
  at_first rule =
      in_first (found_at rule answers (stamp_at k S29)) (found_at rule answers (stamp_at k S59) ++ []) rule (stamp_at k S29)
      (λ s. elim (stands_either (found_at rule answers (stamp_at k S59)) [] rule (stamp_at k S29) s) [
        | inl l ↦ not_at rule (stamp_at k S59) (found_at rule answers (stamp_at k S59)) (at_place rule answers (stamp_at k S59)) rule (stamp_at k S29) (apart_59 k) l
        | inr n ↦ absurd n
      ])

  at_second : (rule : RuleId) → StandsAt (both rule) rule (stamp_at k S59) ↔ StandsAt (found_at rule answers (stamp_at k S59)) rule (stamp_at k S59)
  at_second rule = then_iff
      (in_second (found_at rule answers (stamp_at k S29)) (found_at rule answers (stamp_at k S59) ++ []) rule (stamp_at k S59)
      (not_at rule (stamp_at k S29) (found_at rule answers (stamp_at k S29)) (at_place rule answers (stamp_at k S29)) rule (stamp_at k S59) (apart_29 k)))
      (in_first (found_at rule answers (stamp_at k S59)) [] rule (stamp_at k S59) (λ n. absurd n))

  -- among those of both rules, those of one
  of_e012 : (at : Place) → StandsAt (found_all bound_rules answers k e) E012 at ↔ StandsAt (both E012) E012 at
  of_e012 at = in_first (both E012) (both E050 ++ []) E012 at (λ s. no (rule_of (E050 ∷ []) (IsUnder k) (both E050 ++ []) E012 at (all_own (E050 ∷ []) answers k e) s))
    where
      no : has_rule (E050 ∷ []) E012 ≡ true → ⊥
      no h = cc

  of_e050 : (at : Place) → StandsAt (found_all bound_rules answers k e) E050 at ↔ StandsAt (both E050) E050 at
  of_e050 at = then_iff
      (in_second (both E012) (both E050 ++ []) E050 at (λ s. no (rule_of (E012 ∷ []) (IsUnder k) (both E012) E050 at (row_own E012 answers k e) s)))
      (in_first (both E050) [] E050 at (λ n. absurd n))
    where
      no : has_rule (E012 ∷ []) E050 ≡ true → ⊥
      no h = cc

  pub rules_exact : (rule : RuleId) (slot : Slot) → AreHeld t m e slot → is_timestamp slot ≡ true → has_rule bound_rules rule ≡ true →
      StandsAt (found_all bound_rules answers k e) rule (stamp_at k slot) ↔ IsAbove (entity_cell e slot 0) (bound_at (bound_of rule) t m)
  rules_exact E012 S29 h is has = then_iff (of_e012 (stamp_at k S29)) (then_iff (at_first E012) (e012 S29 h.cell h.header))
  rules_exact E012 S59 h is has = then_iff (of_e012 (stamp_at k S59)) (then_iff (at_second E012) (e012 S59 h.cell h.header))
  rules_exact E050 S29 h is has = then_iff (of_e050 (stamp_at k S29)) (then_iff (at_first E050) (e050 S29 h.cell h.moment_fits))
  rules_exact E050 S59 h is has = then_iff (of_e050 (stamp_at k S59)) (then_iff (at_second E050) (e050 S59 h.cell h.moment_fits))
  rules_exact E012 _ h is has = cc
  rules_exact E050 _ h is has = cc
  rules_exact _ slot h is has = cc

  -- ---- all findings stand at timestamps
  one_at : (rule : RuleId) (s : Slot) → is_timestamp s ≡ true → AreAtStamps k (found_at rule answers (stamp_at k s))
  one_at rule s is =
      each_weaken (Stands rule (λ q. q ≡ stamp_at k s)) (λ f. IsStamp k f.place) (λ f h. record { slot = s; timestamp = is; here = h.at }) (found_at rule answers (stamp_at k s)) (at_place rule answers (stamp_at k s))

  both_at : (rule : RuleId) → AreAtStamps k (both rule)
  both_at rule =
      each_append (λ f. IsStamp k f.place) (found_at rule answers (stamp_at k S29)) (found_at rule answers (stamp_at k S59) ++ []) (one_at rule S29 refl)
      (each_append (λ f. IsStamp k f.place) (found_at rule answers (stamp_at k S59)) [] (one_at rule S59 refl) tt)

  pub rules_at : AreAtStamps k (found_all bound_rules answers k e)
  rules_at = each_append (λ f. IsStamp k f.place) (both E012) (both E050 ++ []) (both_at E012) (each_append (λ f. IsStamp k f.place) (both E050) [] (both_at E050) tt)
