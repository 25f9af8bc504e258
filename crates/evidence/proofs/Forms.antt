-- Facts one by one.
use Rattle.std.proofs.Common.{◌≡◌, ◌<◌, ◌+◌, ℕ, suc, length, List, [], ◌∷◌, ◌++◌, map, take, drop, slice_set, refl, sym, ◌∙◌, ap, arith, append_assoc}
use Rattle.std.proofs.Math.ListN.{get_or}
use Rattle.std.proofs.Math.Seq.{drop-cons}
use Rattle.feed_values.specs.declared.cell_ref.CellRef.{CellRef}
use Rattle.feed_values.specs.declared.cell_value.CellValue.{CellValue}
use Rattle.feed_values.specs.Cells.{cell_value}
use Rattle.rule_table.specs.declared.fact.Fact.{Fact}
use Rattle.rule_table.specs.declared.place.Place.{Place}
use Rattle.rule_table.specs.declared.row.Cite.{Cite}
use Rattle.rule_table.specs.Broken.{IsFormed}
use Rattle.rule_table.specs.Cited.{values_of}
use Rattle.rule_table.proofs.MoreCells.{cells_more}

-- there are as many facts as entries
pub formed_length : (at : Place) (vs : List CellValue) (cs : List Cite) (fs : List Fact) → IsFormed at vs cs fs → length cs ≡ length fs
formed_length at vs [] [] h = refl
formed_length at vs [] (f ∷ fs) h = absurd h
formed_length at vs (c ∷ cs) [] h = absurd h
formed_length at vs (c ∷ cs) (f ∷ fs) h = ap suc (formed_length at (vs ++ f.value ∷ []) cs fs h.2)

-- the values of facts, as many taken over as there are cells
pub facts_more : (cells : List CellRef) (k : ℕ) (cell : CellRef) (facts : List Fact) (d : Fact) → k < length cells → k < length facts → cell_value cell ≡ (let f : Fact = get_or facts k d in f.value)
    → map cell_value (take k cells) ++ values_of (drop k facts) ≡ values_of facts
    → map cell_value (take (k + 1) (slice_set cells k cell)) ++ values_of (drop (k + 1) facts) ≡ values_of facts
facts_more cells k cell facts d h i e so =
    let next : suc k ≡ k + 1 = omega arith in
    ap (λ vs. vs ++ values_of (drop (k + 1) facts)) (cells_more cells k cell h)
    ∙ append_assoc (map cell_value (take k cells)) (cell_value cell ∷ []) (values_of (drop (k + 1) facts))
    ∙ ap (λ v. map cell_value (take k cells) ++ v ∷ values_of (drop (k + 1) facts)) e
    ∙ ap (λ j. map cell_value (take k cells) ++ values_of (get_or facts k d ∷ drop j facts)) (sym next)
    ∙ ap (λ fs. map cell_value (take k cells) ++ values_of fs) (sym (drop-cons facts k d i))
    ∙ so
