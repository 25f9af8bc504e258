-- Laws of citing: two answers that agree along a row's entries cite the same facts there, and entries of which one is never
-- answered cite none.
use Rattle.std.specs.Prelude.{◌≡◌, nat_le, Bool, true, false, List, [], ◌∷◌, ◌++◌, Option, Some, None, cond, refl}
use Rattle.std.proofs.Common.{ap, ◌∙◌}
use Rattle.feed_values.specs.declared.cell_value.CellValue.{CellValue}
use Rattle.rule_table.specs.declared.rule.RuleId.{RuleId}
use Rattle.rule_table.specs.declared.ask.Ask.{Ask}
use Rattle.rule_table.specs.declared.row.Cite.{Cite}
use Rattle.rule_table.specs.declared.fact.Fact.{Fact}
use Rattle.rule_table.specs.declared.place.Place.{Place}
use Rattle.rule_table.specs.Asked.{in_range, index_of}
use Rattle.rule_table.specs.Cited.{and_then, answered, fact_at, cited, values_of}
use Rattle.rule_table.specs.Rows.{cites_at}
use Rattle.rule_table.specs.Table.{first_of}
use Rattle.rule_table.specs.Found.{Found}
use Rattle.rule_table.specs.Judged.{found_of, found_at}

pub both_same : {A : Type 0} {a b c d : List A} → a ≡ b → c ≡ d → (a ++ c) ≡ (b ++ d)
both_same h k = cc

-- two answers agree on each entry, after all facts that can have been cited before it
abbrev pub Along : (Ask → Option CellValue) → (Ask → Option CellValue) → Place → List Fact → List Cite → Type 0
Along a b at before [] = Unit {0}
Along a b at before (c ∷ cs) = (fact_at a at (values_of before) c ≡ fact_at b at (values_of before) c) × ((f : Fact) → fact_at a at (values_of before) c ≡ Some f → Along a b at (before ++ f ∷ []) cs)

-- the fact of an entry that was answered has this value
pub value_is : (q : Ask) (v : CellValue) (f : Fact) → answered q (Some v) ≡ Some f → f.value ≡ v
value_is q v f h = kept (in_range v) h where
  kept : (b : Bool) → cond b (let some : Option Fact = Some (record { ask = q; value = v }) in some) None ≡ Some f → f.value ≡ v
  kept true k = cc
  kept false k = cc

pub cited_along : (a b : Ask → Option CellValue) (at : Place) (before : List Fact) (cs : List Cite) → Along a b at before cs → cited a at before cs ≡ cited b at before cs
cited_along a b at before [] h = refl
cited_along a b at before (c ∷ cs) h =
    later (fact_at a at (values_of before) c) (λ f e. cited_along a b at (before ++ f ∷ []) cs (h.1 f e))
    ∙ ap (λ o. and_then o (λ f. cited b at (before ++ f ∷ []) cs)) h.0
  where
    later : (o : Option Fact) → ((f : Fact) → o ≡ Some f → cited a at (before ++ f ∷ []) cs ≡ cited b at (before ++ f ∷ []) cs) → and_then o (λ f. cited a at (before ++ f ∷ []) cs) ≡ and_then o (λ f. cited b at (before ++ f ∷ []) cs)
    later None w = refl
    later (Some f) w = w f refl

pub found_along : (rule : RuleId) (a b : Ask → Option CellValue) (at : Place) → Along a b at [] (cites_at rule at) → found_at rule a at ≡ found_at rule b at
found_along rule a b at h = ap (λ o. cond (nat_le (first_of rule) (index_of at)) (found_of rule at o) []) (cited_along a b at [] (cites_at rule at) h)

-- an entry without an answer stands among them, whatever was cited before it
abbrev pub Ends : (Ask → Option CellValue) → Place → List Fact → List Cite → Type 0
Ends a at before [] = ⊥
Ends a at before (c ∷ cs) = (f : Fact) → fact_at a at (values_of before) c ≡ Some f → Ends a at (before ++ f ∷ []) cs

pub cited_ends : (a : Ask → Option CellValue) (at : Place) (before : List Fact) (cs : List Cite) → Ends a at before cs → cited a at before cs ≡ None
cited_ends a at before [] h = absurd h
cited_ends a at before (c ∷ cs) h = later (fact_at a at (values_of before) c) (λ f e. cited_ends a at (before ++ f ∷ []) cs (h f e))
  where
    later : (o : Option Fact) → ((f : Fact) → o ≡ Some f → cited a at (before ++ f ∷ []) cs ≡ None) → and_then o (λ f. cited a at (before ++ f ∷ []) cs) ≡ None
    later None w = refl
    later (Some f) w = w f refl

pub found_ends : (rule : RuleId) (a : Ask → Option CellValue) (at : Place) → Ends a at [] (cites_at rule at) → found_at rule a at ≡ []
found_ends rule a at h =
    ap (λ o. cond (nat_le (first_of rule) (index_of at)) (found_of rule at o) []) (cited_ends a at [] (cites_at rule at) h) ∙ either (nat_le (first_of rule) (index_of at))
  where
    either : (b : Bool) → cond b (let none : List Found = [] in none) [] ≡ []
    either true = refl
    either false = refl
