-- Two answers that agree on what rules ask give equal findings.
use Rattle.std.specs.Prelude.{◌≡◌, ℕ, zero, suc, Bool, true, List, [], ◌∷◌, ◌++◌, Option, Some, None, refl}
use Rattle.std.specs.List.{list_all}
use Rattle.std.proofs.Common.{ap, ◌∙◌}
use Rattle.std.proofs.lemmas.Bool.{and_parts}
use Rattle.feed_values.specs.declared.slot.Slot.{Slot}
use Rattle.feed_values.specs.declared.path.Path.{Path}
use Rattle.feed_values.specs.declared.cell_value.CellValue.{CellValue}
use Rattle.feed_values.specs.Schema.{Value}
use Rattle.feed_values.specs.Messages.{entity}
use Rattle.rule_table.specs.declared.rule.RuleId.{RuleId}
use Rattle.rule_table.specs.declared.ask.Ask.{Ask}
use Rattle.rule_table.specs.declared.row.Cite.{Cite}
use Rattle.rule_table.specs.declared.fact.Fact.{Fact}
use Rattle.rule_table.specs.declared.key.EntityKey.{EntityKey}
use Rattle.rule_table.specs.declared.place.Place.TheVariants as place
use Rattle.rule_table.specs.Asked.{ask_at}
use Rattle.rule_table.specs.Cited.{and_then, answered, fact_at, values_of}
use Rattle.rule_table.specs.CitedLaws.{Along, both_same, found_along}
use Rattle.rule_table.specs.Table.{slots_of, cites_of}
use Rattle.rule_table.specs.Judged.{places_at, found_at, found_below, found_in, found_all}
use Rattle.rule_table.specs.Sources.{Source, source_of, source_at, comes_from, comes_to, asked_at, asked_from}

-- they answer alike on what comes from what passes
abbrev pub SameFrom : (Source → Bool) → (Ask → Option CellValue) → (Ask → Option CellValue) → Type 0
SameFrom test a b = (q : Ask) → test (source_of q) ≡ true → a q ≡ b q

module _ (test : Source → Bool) (a b : Ask → Option CellValue) (same : SameFrom test a b) where
  fact_same : (key : EntityKey) (p : Path) (vs : List CellValue) (c : Cite) → test (source_at c) ≡ true → fact_at a (place.Entity key p) vs c ≡ fact_at b (place.Entity key p) vs c
  fact_same key p vs c t = asked (ask_at (place.Entity key p) vs c) refl
    where
      asked : (o : Option Ask) → ask_at (place.Entity key p) vs c ≡ o → and_then o (λ q. answered q (a q)) ≡ and_then o (λ q. answered q (b q))
      asked None e = refl
      asked (Some q) e = ap (answered q) (same q (ap test (asked_from key p vs c q e) ∙ t))

  along_same : (key : EntityKey) (p : Path) (before : List Fact) (cs : List Cite) → list_all (λ c. test (source_at c)) cs ≡ true → Along a b (place.Entity key p) before cs
  along_same key p before [] t = tt
  along_same key p before (c ∷ cs) t =
      let ts = and_parts (test (source_at c)) (list_all (λ d. test (source_at d)) cs) t in
      (fact_same key p (values_of before) c ts.0, λ f _. along_same key p (before ++ f ∷ []) cs ts.1)

  module _ (rule : RuleId) (from : comes_from test rule ≡ true) where
    place_same : (key : EntityKey) (p : Path) → found_at rule a (place.Entity key p) ≡ found_at rule b (place.Entity key p)
    place_same key p = found_along rule a b (place.Entity key p) (along_same key p [] (cites_of rule) from)

    pub below_same : (key : EntityKey) (s : Slot) (n : ℕ) → found_below rule a key s n ≡ found_below rule b key s n
    below_same key s zero = refl
    below_same key s (suc i) = both_same (below_same key s i) (place_same key (record { slot = s; index = i }))

    in_same : (key : EntityKey) (e : Value entity) (slots : List Slot) → found_in rule a key e slots ≡ found_in rule b key e slots
    in_same key e [] = refl
    in_same key e (s ∷ slots) = both_same (below_same key s (places_at e s)) (in_same key e slots)

  by_same : (rule : RuleId) (slots : List Slot) → asked_at (comes_from test rule) slots ≡ true → (key : EntityKey) (e : Value entity) → found_in rule a key e slots ≡ found_in rule b key e slots
  by_same rule [] from key e = refl
  by_same rule (s ∷ slots) from key e = in_same rule from key e (s ∷ slots)

  -- rules whose facts at their places, if they have any, all come from there
  pub all_same : (rules : List RuleId) → list_all (comes_to test) rules ≡ true → (key : EntityKey) (e : Value entity) → found_all rules a key e ≡ found_all rules b key e
  all_same [] t key e = refl
  all_same (rule ∷ rules) t key e =
      let ts = and_parts (comes_to test rule) (list_all (comes_to test) rules) t in
      both_same (by_same rule (slots_of rule) ts.0 key e) (all_same rules ts.1 key e)
