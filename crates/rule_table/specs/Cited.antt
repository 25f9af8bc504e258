-- The facts of a row at a place, and whether they break it.
use Rattle.std.specs.Prelude.{Bool, false, List, [], ◌∷◌, ◌++◌, map, Option, Some, None, option_map, if◌then◌else◌}
use Rattle.feed_values.specs.declared.cell_value.CellValue.{CellValue}
use Rattle.rule_table.specs.declared.ask.Ask.{Ask}
use Rattle.rule_table.specs.declared.fact.Fact.{Fact}
use Rattle.rule_table.specs.declared.place.Place.{Place}
use Rattle.rule_table.specs.declared.row.Cite.{Cite}
use Rattle.rule_table.specs.declared.row.Atom.{Atom}
use Rattle.rule_table.specs.Asked.{ask_at, in_range}
use Rattle.rule_table.specs.Passed.{passes}

abbrev pub and_then : {A B : Type 0} → Option A → (A → Option B) → Option B
and_then None f = None
and_then (Some x) f = f x

abbrev pub values_of : List Fact → List CellValue
values_of facts = map (λ f. f.value) facts

-- an answer within the bounds of all answers
abbrev pub answered : Ask → Option CellValue → Option Fact
answered a None = None
answered a (Some v) = if in_range v then Some (record { ask = a; value = v }) else None

-- the fact of a row's entry, after the values that were cited before it
abbrev pub fact_at : (Ask → Option CellValue) → Place → List CellValue → Cite → Option Fact
fact_at answer at vs c = and_then (ask_at at vs c) (λ a. answered a (answer a))

-- the facts of a row's entries, after those cited before; none where an entry makes no ask or an ask has no answer
abbrev pub cited : (Ask → Option CellValue) → Place → List Fact → List Cite → Option (List Fact)
cited answer at before [] = Some before
cited answer at before (c ∷ cs) = and_then (fact_at answer at (values_of before) c) (λ f. cited answer at (before ++ f ∷ []) cs)

abbrev pub do_break : Place → List Atom → Option (List Fact) → Bool
do_break at atoms None = false
do_break at atoms (Some facts) = passes at atoms (values_of facts)

-- these facts, where they break it
abbrev pub breaking : Place → List Atom → Option (List Fact) → Option (List Fact)
breaking at atoms o = if do_break at atoms o then o else None

-- ---- the same with values alone
-- the value of a row's entry, after the values that were cited before it
abbrev pub value_from : (Ask → Option CellValue) → Place → List CellValue → Cite → Option CellValue
value_from answer at vs c = option_map (λ f. f.value) (fact_at answer at vs c)

abbrev pub value_then : Option CellValue → (CellValue → Bool) → Bool
value_then None f = false
value_then (Some v) f = f v

abbrev pub broken_from : (Ask → Option CellValue) → Place → List Atom → List CellValue → List Cite → Bool
broken_from answer at atoms vs [] = passes at atoms vs
broken_from answer at atoms vs (c ∷ cs) = value_then (value_from answer at vs c) (λ v. broken_from answer at atoms (vs ++ v ∷ []) cs)
