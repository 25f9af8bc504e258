-- A list beside itself.
use Rattle.std.specs.Prelude.{◌≡◌, ◌==◌, ◌&&◌, not, ℤ, Bool, true, false, List, [], ◌∷◌, refl}
use Rattle.std.specs.List.{list_any}
use Rattle.std.specs.Ordering.{int_eq}
use Rattle.std.proofs.Common.{ap, ◌∙◌, eq-eqb}
use Rattle.std.proofs.lemmas.Bool.Decides.{Decides-int_eq}
use Rattle.std.proofs.lemmas.Slice.Eq.{bytes_eq-Decides}
use Rattle.std.proofs.lemmas.Bool.{and_from, or_left, or_right}
use Rattle.feed_values.specs.declared.cell_value.CellValue.{CellValue}
use Rattle.feed_values.specs.declared.cell_value.CellValue.TheVariants as value
use Rattle.rule_table.specs.declared.fact.Fact.{Fact}
use Rattle.rule_table.specs.Passed.{same_cell}
use Rattle.rule_table.specs.Found.{Found}
use Rattle.rule_table.specs.Groups.{Each}
use Rattle.rule_table.specs.GroupLaws.{each_weaken}
use Rattle.rule_history.specs.Standing.{Standing, same_spot, same_finding, stands, was, opened, closed, spots_of}
use Rattle.rule_table.specs.SameFacts.{same_ask, same_facts}
use Rattle.engine_laws.specs.Standings.{findings_of}
use Rattle.engine_laws.proofs.Lists.{filter-none, each_of_map}
use Rattle.engine_laws.proofs.Spots.{spot_self}
use Rattle.rule_table.specs.Parts.{AskParts, parts_of, same_parts, parts_same}

parts_self : (p : AskParts) → same_parts p p ≡ true
parts_self p =
    all (p.what == p.what) (p.number == p.number) (p.index == p.index) _ _ (eq-eqb p.what p.what refl) (eq-eqb p.number p.number refl) (eq-eqb p.index p.index refl)
    ((bytes_eq-Decides p.first p.first).1 refl) ((bytes_eq-Decides p.second p.second).1 refl)
  where
    all : (a b c d e : Bool) → a ≡ true → b ≡ true → c ≡ true → d ≡ true → e ≡ true → (a && b && c && d && e) ≡ true
    all a b c d e h i j k l = cc

int_self : (n : ℤ) → int_eq n n ≡ true
int_self n = (Decides-int_eq n n).1 refl

cell_self : (v : CellValue) → same_cell v v ≡ true
cell_self value.Missing = refl
cell_self (value.Number n) = int_self n
cell_self (value.Text t) = (bytes_eq-Decides t t).1 refl

facts_self : (fs : List Fact) → same_facts fs fs ≡ true
facts_self [] = refl
facts_self (f ∷ fs) = and_from (same_ask f.ask f.ask && same_cell f.value f.value) (same_facts fs fs) (and_from (same_ask f.ask f.ask) (same_cell f.value f.value) (parts_same f.ask f.ask ∙ parts_self (parts_of f.ask)) (cell_self f.value)) (facts_self fs)

finding_self : (f : Found) → same_finding f f ≡ true
finding_self f = and_from (same_spot f f) (same_facts f.facts f.facts) (spot_self f) (facts_self f.facts)

-- each of a list is one of it
any_self : (test : Found → Found → Bool) → ((f : Found) → test f f ≡ true) → (fs : List Found) → Each (λ f. list_any (test f) fs ≡ true) fs
any_self test self [] = tt
any_self test self (f ∷ fs) = (
  or_left (test f f) (list_any (test f) fs) (self f),
  each_weaken (λ g. list_any (test g) fs ≡ true) (λ g. list_any (test g) (f ∷ fs) ≡ true) (λ g h. or_right (test g f) (list_any (test g) fs) h) fs (any_self test self fs),
)

pub opened-same : (xs : List Standing) → opened (findings_of xs) xs ≡ []
opened-same xs =
    filter-none (λ x. not (was (findings_of xs) x.finding)) xs
    (each_weaken (λ x. was (findings_of xs) x.finding ≡ true) (λ x. not (was (findings_of xs) x.finding) ≡ false) (λ x h. ap not h) xs
    (each_of_map (λ x. x.finding) (λ f. was (findings_of xs) f ≡ true) xs (any_self same_finding finding_self (findings_of xs))))

pub closed-same : (fs : List Found) → closed fs fs ≡ []
closed-same fs =
    ap spots_of (filter-none (λ f. not (stands fs f)) fs
    (each_weaken (λ f. stands fs f ≡ true) (λ f. not (stands fs f) ≡ false) (λ f h. ap not h) fs (any_self same_spot spot_self fs)))
