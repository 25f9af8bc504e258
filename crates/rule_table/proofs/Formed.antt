-- What is cited has the asks of its entries, and values alone decide the same.
use Rattle.std.proofs.Common.{◌≡◌, ◌≤◌, Bool, true, false, cond, nat_le, List, [], ◌∷◌, ◌++◌, Option, Some, None, option_map, refl, sym, ◌∙◌, ap, append_assoc, subst, rules}
use Rattle.feed_values.specs.declared.cell_value.CellValue.{CellValue}
use Rattle.rule_table.specs.declared.ask.Ask.{Ask}
use Rattle.rule_table.specs.declared.fact.Fact.{Fact}
use Rattle.rule_table.specs.declared.place.Place.{Place}
use Rattle.rule_table.specs.declared.row.Cite.{Cite}
use Rattle.rule_table.specs.declared.row.Atom.{Atom}
use Rattle.rule_table.specs.Asked.{index_of, ask_at, in_range}
use Rattle.rule_table.specs.Cited.{and_then, answered, fact_at, cited, values_of, do_break, breaking, value_then, broken_from}
use Rattle.rule_table.specs.Passed.{passes}
use Rattle.std.proofs.lemmas.Bool.{le-leb}
use Rattle.rule_table.specs.Broken.{IsFormed}
use Rattle.rule_table.specs.declared.rule.RuleId.{RuleId}
use Rattle.rule_table.specs.Table.{first_of}
use Rattle.rule_table.specs.Rows.{cites_at, test_at}
use Rattle.rule_table.specs.Found.{Found}
use Rattle.rule_table.specs.Judged.{found_of, found_at}

-- what came before an answer
pub and_then_some : {A B : Type 0} (o : Option A) (f : A → Option B) (y : B) → and_then o f ≡ Some y → (x : A) × ((o ≡ Some x) × (f x ≡ Some y))
and_then_some None f y h = cc
and_then_some (Some x) f y h = (x, (refl, h))

pub values_more : (facts : List Fact) (f : Fact) → values_of (facts ++ f ∷ []) ≡ values_of facts ++ f.value ∷ []
values_more [] f = refl
values_more (x ∷ xs) f = ap (λ vs. x.value ∷ vs) (values_more xs f)

-- ---- values alone decide

cited_after : (answer : Ask → Option CellValue) (at : Place) (atoms : List Atom) (before : List Fact) (cs : List Cite)
    → ((f : Fact) → broken_from answer at atoms (values_of (before ++ f ∷ [])) cs ≡ do_break at atoms (cited answer at (before ++ f ∷ []) cs))
    → (o : Option Fact) → value_then (option_map (λ f. f.value) o) (λ v. broken_from answer at atoms (values_of before ++ v ∷ []) cs) ≡ do_break at atoms (and_then o (λ f. cited answer at (before ++ f ∷ []) cs))
cited_after answer at atoms before cs more None = refl
cited_after answer at atoms before cs more (Some f) = ap (λ vs. broken_from answer at atoms vs cs) (sym (values_more before f)) ∙ more f

pub broken-cited : (answer : Ask → Option CellValue) (at : Place) (atoms : List Atom) (before : List Fact) (cs : List Cite)
    → broken_from answer at atoms (values_of before) cs ≡ do_break at atoms (cited answer at before cs)
broken-cited answer at atoms before [] = refl
broken-cited answer at atoms before (c ∷ cs) =
    cited_after answer at atoms before cs (λ f. broken-cited answer at atoms (before ++ f ∷ []) cs) (fact_at answer at (values_of before) c)

-- ---- facts that break a row, and those that don't
pub breaks : (at : Place) (atoms : List Atom) (o : Option (List Fact)) (facts : List Fact) → breaking at atoms o ≡ Some facts → (o ≡ Some facts) × (passes at atoms (values_of facts) ≡ true)
breaks at atoms None facts h = cc
breaks at atoms (Some l) facts h = kept (passes at atoms (values_of l)) refl h
  where
    kept : (b : Bool) → passes at atoms (values_of l) ≡ b → cond b (let some : Option (List Fact) = Some l in some) None ≡ Some facts → (Some l ≡ Some facts) × (passes at atoms (values_of facts) ≡ true)
    kept true e k =
        let one : l ≡ facts = cc in
        (k, subst (λ x. passes at atoms (values_of x) ≡ true) one e)
    kept false e k = cc

pub holds_back : (at : Place) (atoms : List Atom) (o : Option (List Fact)) → breaking at atoms o ≡ None → do_break at atoms o ≡ false
holds_back at atoms None h = refl
holds_back at atoms (Some l) h = kept (passes at atoms (values_of l)) h
  where
    kept : (b : Bool) → cond b (let some : Option (List Fact) = Some l in some) None ≡ None → b ≡ false
    kept true k = cc
    kept false k = refl

pub breaking_is : (at : Place) (atoms : List Atom) (o : Option (List Fact)) (l : List Fact) (b : Bool) → o ≡ Some l → passes at atoms (values_of l) ≡ b
    → breaking at atoms o ≡ cond b (let some : Option (List Fact) = Some l in some) None
breaking_is at atoms o l b h k = rw (h, k) refl

pub found_broken : (rule : RuleId) (answer : Ask → Option CellValue) (at : Place) (facts : List Fact) → first_of rule ≤ index_of at
    → cited answer at [] (cites_at rule at) ≡ Some facts → passes at (test_at rule at) (values_of facts) ≡ true → found_at rule answer at ≡ record { rule = rule; place = at; facts = facts } ∷ []
found_broken rule answer at facts f h k =
    let first : nat_le (first_of rule) (index_of at) ≡ true = le-leb (first_of rule) (index_of at) f in
    rw (first, h, k) refl

-- ---- what is cited has its form

-- an answer within the bounds, under its ask
answered_of : (a : Ask) (o : Option CellValue) (f : Fact) → answered a o ≡ Some f → (a ≡ f.ask) × (in_range f.value ≡ true)
answered_of a None f h = cc
answered_of a (Some v) f h = kept (in_range v) refl h where
  kept : (b : Bool) → in_range v ≡ b → cond b (let some : Option Fact = Some (record { ask = a; value = v }) in some) None ≡ Some f → (a ≡ f.ask) × (in_range f.value ≡ true)
  kept true e k = (cc, cc)
  kept false e k = cc

pub fact_asks : (answer : Ask → Option CellValue) (at : Place) (vs : List CellValue) (c : Cite) (f : Fact)
    → fact_at answer at vs c ≡ Some f → (ask_at at vs c ≡ Some f.ask) × (in_range f.value ≡ true)
fact_asks answer at vs c f h =
    let r = and_then_some (ask_at at vs c) (λ a. answered a (answer a)) f h in
    let s = answered_of r.0 (answer r.0) f r.1.1 in
    (r.1.0 ∙ ap Some s.0, s.1)

-- the facts after some, with the asks of the entries
pub record HasRest (at : Place) (before : List Fact) (cs : List Cite) (all : List Fact) : Type 0 where
  pub rest : List Fact
  pub is : all ≡ before ++ rest
  pub formed : IsFormed at (values_of before) cs rest

pub cited_formed : (answer : Ask → Option CellValue) (at : Place) (before : List Fact) (cs : List Cite) (all : List Fact)
    → cited answer at before cs ≡ Some all → HasRest at before cs all
cited_formed answer at before [] all h = record { rest = []; is = search rules; formed = tt }
cited_formed answer at before (c ∷ cs) all h =
    let r = and_then_some (fact_at answer at (values_of before) c) (λ f. cited answer at (before ++ f ∷ []) cs) all h in
    let more = cited_formed answer at (before ++ r.0 ∷ []) cs all r.1.1 in
    let asks = fact_asks answer at (values_of before) c r.0 r.1.0 in
    record {
      rest = r.0 ∷ more.rest;
      is = more.is ∙ append_assoc before (r.0 ∷ []) more.rest;
      formed = (asks.0, asks.1, subst (λ vs. IsFormed at vs cs more.rest) (values_more before r.0) more.formed);
    }

-- the facts of a row have the asks of its entries
pub cited_all : (answer : Ask → Option CellValue) (at : Place) (cs : List Cite) (all : List Fact) → cited answer at [] cs ≡ Some all → IsFormed at [] cs all
cited_all answer at cs all h =
    let r = cited_formed answer at [] cs all h in
    rw r.is r.formed

-- ---- nothing is found where the row isn't broken

not_found : (rule : RuleId) (at : Place) (o : Option (List Fact)) → do_break at (test_at rule at) o ≡ false → found_of rule at o ≡ []
not_found rule at None h = refl
not_found rule at (Some facts) h = rw h refl

either_none : (b : Bool) (found : List Found) → found ≡ [] → cond b found [] ≡ []
either_none true found h = h
either_none false found h = refl

pub unbroken : (rule : RuleId) (answer : Ask → Option CellValue) (at : Place)
    → do_break at (test_at rule at) (cited answer at [] (cites_at rule at)) ≡ false → found_at rule answer at ≡ []
unbroken rule answer at h = either_none (nat_le (first_of rule) (index_of at)) (found_of rule at (cited answer at [] (cites_at rule at))) (not_found rule at (cited answer at [] (cites_at rule at)) h)
