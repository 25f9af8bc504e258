-- The Bool that computes says what `Breaks` says.
use Rattle.std.proofs.Common.{◌≡◌, ◌↔◌, ◌==◌, ◌&&◌, ◌||◌, nat_le, ℕ, Bool, true, false, List, [], ◌∷◌, ◌++◌, Option, Some, None, refl, sym, ap, ◌∙◌, eq-eqb}
use Rattle.std.specs.Cmp.{on_equiv, nat_eq_equiv}
use Rattle.std.proofs.lemmas.Bool.{and_parts, and_from, eqb-true, leb-true, le-leb}
use Rattle.std.proofs.lemmas.Map.Views.{Contains-from_any, list_any-from_Contains}
use Rattle.feed_values.specs.declared.cell_value.CellValue.{CellValue}
use Rattle.feed_values.specs.Cells.{has_item, way}
use Rattle.rule_table.specs.declared.ask.Ask.{Ask}
use Rattle.rule_table.specs.declared.rule.RuleId.{RuleId}
use Rattle.rule_table.specs.declared.row.Cite.{Cite}
use Rattle.rule_table.specs.declared.place.Place.{Place}
use Rattle.rule_table.specs.declared.fact.Fact.{Fact}
use Rattle.rule_table.specs.Table.{first_of}
use Rattle.rule_table.specs.Rows.{slots_at, cites_at, test_at}
use Rattle.rule_table.specs.Asked.{slot_of, index_of, ask_at, in_range}
use Rattle.rule_table.specs.Broken.{Breaks, IsFormed, IsPlace}
use Rattle.rule_table.specs.Cited.{values_of}
use Rattle.rule_table.specs.Order.{slot_number}
use Rattle.rule_table.specs.Passed.{passes}
use Rattle.evidence.specs.DoesBreak.{are_formed, does_break, has_place, is_asked, is_listed}
use Rattle.rule_table.proofs.SameAsks.{ask_is, ask_same, never, slot_is}

-- ---- a place
plain_is : (b c : Bool) (n : ℕ) → (b || n == 0) ≡ true → b ≡ false → n ≡ 0
plain_is true c n h e = absurd (cc)
plain_is false c n h e = eqb-true n 0 h

plain_from : (b : Bool) (n : ℕ) → (b ≡ false → n ≡ 0) → (b || n == 0) ≡ true
plain_from true n h = refl
plain_from false n h = eq-eqb n 0 (h refl)

place_is : (rule : RuleId) (at : Place) → has_place rule at ≡ true → IsPlace rule at
place_is rule at h =
    let parts = and_parts (is_listed (slots_at rule at) (slot_of at)) (nat_le (first_of rule) (index_of at) && (has_item (way (slot_of at)) || index_of at == 0)) h in
    let rest = and_parts (nat_le (first_of rule) (index_of at)) (has_item (way (slot_of at)) || index_of at == 0) parts.1 in
    record {
      listed = Contains-from_any slot_is (slot_of at) (slots_at rule at) parts.0;
      first = leb-true (first_of rule) (index_of at) rest.0;
      plain = plain_is (has_item (way (slot_of at))) true (index_of at) rest.1;
    }

place_from : (rule : RuleId) (at : Place) → IsPlace rule at → has_place rule at ≡ true
place_from rule at h =
    and_from _ _ (list_any-from_Contains (on_equiv slot_number nat_eq_equiv) (slot_of at) (slots_at rule at) h.listed)
    (and_from _ _ (le-leb (first_of rule) (index_of at) h.first) (plain_from (has_item (way (slot_of at))) (index_of at) h.plain))

-- ---- facts
asked_is : (o : Option Ask) (a : Ask) → is_asked o a ≡ true → o ≡ Some a
asked_is None a h = never h
asked_is (Some asked) a h = ap Some (ask_is asked a h)

asked_from : (o : Option Ask) (a : Ask) → o ≡ Some a → is_asked o a ≡ true
asked_from o a e = ap (λ p. is_asked p a) e ∙ ask_same a

formed_is : (at : Place) (vs : List CellValue) (cs : List Cite) (fs : List Fact) → are_formed at vs cs fs ≡ true → IsFormed at vs cs fs
formed_is at vs [] [] h = tt
formed_is at vs [] (f ∷ fs) h = never h
formed_is at vs (c ∷ cs) [] h = never h
formed_is at vs (c ∷ cs) (f ∷ fs) h =
    let parts = and_parts (is_asked (ask_at at vs c) f.ask) (in_range f.value && are_formed at (vs ++ f.value ∷ []) cs fs) h in
    let rest = and_parts (in_range f.value) (are_formed at (vs ++ f.value ∷ []) cs fs) parts.1 in
    (asked_is (ask_at at vs c) f.ask parts.0, rest.0, formed_is at (vs ++ f.value ∷ []) cs fs rest.1)

formed_from : (at : Place) (vs : List CellValue) (cs : List Cite) (fs : List Fact) → IsFormed at vs cs fs → are_formed at vs cs fs ≡ true
formed_from at vs [] [] h = refl
formed_from at vs [] (f ∷ fs) h = absurd h
formed_from at vs (c ∷ cs) [] h = absurd h
formed_from at vs (c ∷ cs) (f ∷ fs) h =
    and_from _ _ (asked_from (ask_at at vs c) f.ask h.0) (and_from _ _ h.1 (formed_from at (vs ++ f.value ∷ []) cs fs h.2))

-- ---- both
breaks_is : (rule : RuleId) (at : Place) (facts : List Fact) → does_break rule at facts ≡ true → Breaks rule at facts
breaks_is rule at facts h =
    let parts = and_parts (has_place rule at) (are_formed at [] (cites_at rule at) facts && passes at (test_at rule at) (values_of facts)) h in
    let rest = and_parts (are_formed at [] (cites_at rule at) facts) (passes at (test_at rule at) (values_of facts)) parts.1 in
    record { place = place_is rule at parts.0; formed = formed_is at [] (cites_at rule at) facts rest.0; broken = rest.1 }

breaks_from : (rule : RuleId) (at : Place) (facts : List Fact) → Breaks rule at facts → does_break rule at facts ≡ true
breaks_from rule at facts h = and_from _ _ (place_from rule at h.place) (and_from _ _ (formed_from at [] (cites_at rule at) facts h.formed) h.broken)

pub does_break_is : (rule : RuleId) (at : Place) (facts : List Fact) → (does_break rule at facts ≡ true) ↔ Breaks rule at facts
does_break_is rule at facts = (breaks_is rule at facts, breaks_from rule at facts)

-- ---- in the code
-- two answers to one question are the same
pub one_answer : {P : Type 0} (a b : Bool) → (a ≡ true) ↔ P → (b ≡ true) ↔ P → a ≡ b
one_answer true b h k = sym (k.1 (h.0 refl))
one_answer false true h k = absurd (by (h.1 (k.0 refl)))
  where
    by : false ≡ true → ⊥
    by e = cc
one_answer false false h k = refl
