-- Facts that hold are what is cited.
use Rattle.std.proofs.Common.{◌≡◌, true, nat_le, List, [], ◌∷◌, ◌++◌, Option, Some, refl, sym, ◌∙◌, ap, append_assoc, subst}
use Rattle.std.proofs.lemmas.Bool.{le-leb}
use Rattle.std.proofs.lemmas.List.{append-nil}
use Rattle.feed_values.specs.declared.cell_value.CellValue.{CellValue}
use Rattle.rule_table.specs.declared.ask.Ask.{Ask}
use Rattle.rule_table.specs.declared.fact.Fact.{Fact}
use Rattle.rule_table.specs.declared.place.Place.{Place}
use Rattle.rule_table.specs.declared.row.Cite.{Cite}
use Rattle.rule_table.specs.Asked.{index_of, ask_at, in_range}
use Rattle.rule_table.specs.Cited.{and_then, answered, fact_at, cited, values_of}
use Rattle.rule_table.specs.Table.{first_of}
use Rattle.rule_table.specs.Rows.{cites_at}
use Rattle.rule_table.specs.Broken.{IsFormed}
use Rattle.rule_evidence.specs.Laws.{AllHold, EvidenceIsFound}
use Rattle.rule_table.proofs.Formed.{values_more}

fact_back : (answer : Ask → Option CellValue) (at : Place) (vs : List CellValue) (c : Cite) (f : Fact)
    → ask_at at vs c ≡ Some f.ask → in_range f.value ≡ true → answer f.ask ≡ Some f.value → fact_at answer at vs c ≡ Some f
fact_back answer at vs c f h r a = ap (λ o. and_then o (λ x. answered x (answer x))) h ∙ ap (answered f.ask) a ∙ rw r refl

cited_back : (answer : Ask → Option CellValue) (at : Place) (before : List Fact) (cs : List Cite) (fs : List Fact)
    → IsFormed at (values_of before) cs fs → AllHold answer fs → cited answer at before cs ≡ Some (before ++ fs)
cited_back answer at before [] [] h k = ap Some (sym (append-nil before))
cited_back answer at before [] (f ∷ fs) h k = absurd h
cited_back answer at before (c ∷ cs) [] h k = absurd h
cited_back answer at before (c ∷ cs) (f ∷ fs) h k =
    ap (λ o. and_then o (λ x. cited answer at (before ++ x ∷ []) cs)) (fact_back answer at (values_of before) c f h.0 h.1 k.0)
    ∙ cited_back answer at (before ++ f ∷ []) cs fs (subst (λ vs. IsFormed at vs cs fs) (sym (values_more before f)) h.2) k.1
    ∙ ap Some (append_assoc before (f ∷ []) fs)

pub evidence_found : EvidenceIsFound
evidence_found answer rule at facts b k =
    let c : cited answer at [] (cites_at rule at) ≡ Some facts = cited_back answer at [] (cites_at rule at) facts b.formed k in
    let first : nat_le (first_of rule) (index_of at) ≡ true = le-leb (first_of rule) (index_of at) b.place.first in
    rw (c, first, b.broken) refl
