-- The numbers of the facts of a finding are within bounds.
use Rattle.std.proofs.Common.{◌≡◌, ◌<◌, ℕ, Bool, true, false, ◌&&◌, List, [], ◌∷◌, ◌++◌, length, get_or, refl, zero, suc, arith}
use Rattle.std.specs.List.{list_all}
use Rattle.feed_values.specs.declared.cell_value.CellValue.{CellValue}
use Rattle.rule_table.specs.declared.fact.Fact.{Fact}
use Rattle.rule_table.specs.declared.place.Place.{Place}
use Rattle.rule_table.specs.declared.row.Cite.{Cite}
use Rattle.rule_table.specs.Asked.{in_range}
use Rattle.rule_table.specs.Broken.{IsFormed}

pub formed_in_range : (at : Place) (vs : List CellValue) (cs : List Cite) (fs : List Fact) → IsFormed at vs cs fs → list_all (λ f. in_range f.value) fs ≡ true
formed_in_range at vs [] [] h = refl
formed_in_range at vs [] (f ∷ fs) h = absurd h
formed_in_range at vs (c ∷ cs) [] h = absurd h
formed_in_range at vs (c ∷ cs) (f ∷ fs) h = rw (h.1, formed_in_range at (vs ++ f.value ∷ []) cs fs h.2) refl

first_of : (b c : Bool) → (b && c) ≡ true → b ≡ true
first_of true c h = refl
first_of false c h = cc

rest_of : (b c : Bool) → (b && c) ≡ true → c ≡ true
rest_of true c h = h
rest_of false c h = cc

pub each_in_range : (fs : List Fact) (i : ℕ) (d : Fact) → i < length fs → list_all (λ f. in_range f.value) fs ≡ true → in_range (let f : Fact = get_or fs i d in f.value) ≡ true
each_in_range [] i d l h = absurd (omega arith)
each_in_range (f ∷ fs) zero d l h = first_of (in_range f.value) (list_all (λ f. in_range f.value) fs) h
each_in_range (f ∷ fs) (suc i) d l h = each_in_range fs i d (omega arith) (rest_of (in_range f.value) (list_all (λ f. in_range f.value) fs) h)
