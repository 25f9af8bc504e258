-- The findings of rules on a header are the same by answers that are the same of headers and the moment.
use Rattle.std.specs.Prelude.{◌≡◌, ℕ, Bool, true, false, List, [], ◌∷◌, ◌++◌, Option, Some, None, refl}
use Rattle.std.specs.List.{list_all}
use Rattle.std.proofs.Common.{sym, ap, ◌∙◌}
use borrow.Author.Tests.{clash}
use Rattle.std.proofs.lemmas.Bool.{and_parts}
use Rattle.std.proofs.lemmas.Option.{same_Some}
use Rattle.feed_values.specs.declared.slot.Slot.{Slot}
use Rattle.feed_values.specs.declared.slot.Slot.TheVariants.{S3}
use Rattle.feed_values.specs.declared.cell_value.CellValue.{CellValue}
use Rattle.rule_table.specs.declared.rule.RuleId.{RuleId}
use Rattle.rule_table.specs.declared.ask.Ask.{Ask}
use Rattle.rule_table.specs.declared.ask.Ask.TheVariants as ask
use Rattle.rule_table.specs.declared.row.Cite.{Cite}
use Rattle.rule_table.specs.declared.row.Cite.TheVariants as cite
use Rattle.rule_table.specs.declared.fact.Fact.{Fact}
use Rattle.rule_table.specs.declared.place.Place.TheVariants as place
use Rattle.rule_table.specs.Asked.{ask_at}
use Rattle.rule_table.specs.Cited.{and_then, answered, fact_at, values_of}
use Rattle.rule_table.specs.CitedLaws.{Along, both_same, found_along}
use Rattle.rule_table.specs.Table.{head_slots_of, head_cites_of}
use Rattle.rule_table.specs.Judged.{found_on, head_found_all}
use Rattle.rule_table.specs.Sources.{source_of, asked_at, is_headed}
use Rattle.rule_table.specs.Same.{SameFrom}

-- an entry that asks for headers or the moment, on a header
abbrev pub asks_heads : Cite → Bool
asks_heads cite.Place = true
asks_heads (cite.Cell s) = true
asks_heads (cite.HeadNow s) = true
asks_heads (cite.HeadBefore s) = true
asks_heads cite.Moment = true
asks_heads cite.EntitiesChanged = true
asks_heads _ = false

-- a rule that asks for nothing else on a header, where it has places there
abbrev pub comes_to_heads : RuleId → Bool
comes_to_heads rule = asked_at (list_all asks_heads (head_cites_of rule)) (head_slots_of rule)

cell_headed : (s : Slot) → is_headed (source_of (ask.HeadNow s)) ≡ true
cell_headed S3 = refl
cell_headed _ = refl

headed : (a q : Ask) → is_headed (source_of a) ≡ true → Some a ≡ Some q → is_headed (source_of q) ≡ true
headed a q e h = ap (λ x. is_headed (source_of x)) (sym (same_Some a q h)) ∙ e

asked_headed : (f : ℕ) (s : Slot) (vs : List CellValue) (c : Cite) (q : Ask) → asks_heads c ≡ true → ask_at (place.Head f s) vs c ≡ Some q → is_headed (source_of q) ≡ true
asked_headed f s vs cite.Place q t h = headed _ q (cell_headed s) h
asked_headed f s vs (cite.Cell x) q t h = headed _ q (cell_headed x) h
asked_headed f s vs (cite.HeadNow x) q t h = headed _ q (cell_headed x) h
asked_headed f s vs (cite.HeadBefore x) q t h = headed _ q refl h
asked_headed f s vs cite.Moment q t h = headed _ q refl h
asked_headed f s vs cite.EntitiesChanged q t h = headed _ q refl h
asked_headed f s vs _ q t h = absurd (clash t)

module _ (a b : Ask → Option CellValue) (same : SameFrom is_headed a b) (f : ℕ) where
  fact_same : (s : Slot) (vs : List CellValue) (c : Cite) → asks_heads c ≡ true → fact_at a (place.Head f s) vs c ≡ fact_at b (place.Head f s) vs c
  fact_same s vs c t = asked (ask_at (place.Head f s) vs c) refl
    where
      asked : (o : Option Ask) → ask_at (place.Head f s) vs c ≡ o → and_then o (λ q. answered q (a q)) ≡ and_then o (λ q. answered q (b q))
      asked None e = refl
      asked (Some q) e = ap (answered q) (same q (asked_headed f s vs c q t e))

  along_same : (s : Slot) (before : List Fact) (cs : List Cite) → list_all asks_heads cs ≡ true → Along a b (place.Head f s) before cs
  along_same s before [] t = tt
  along_same s before (c ∷ cs) t =
      let ts = and_parts (asks_heads c) (list_all asks_heads cs) t in
      (fact_same s (values_of before) c ts.0, λ x _. along_same s (before ++ x ∷ []) cs ts.1)

  on_same : (rule : RuleId) → list_all asks_heads (head_cites_of rule) ≡ true → (slots : List Slot) → found_on rule a f slots ≡ found_on rule b f slots
  on_same rule t [] = refl
  on_same rule t (s ∷ slots) = both_same (found_along rule a b (place.Head f s) (along_same s [] (head_cites_of rule) t)) (on_same rule t slots)

  by_same : (rule : RuleId) (slots : List Slot) → asked_at (list_all asks_heads (head_cites_of rule)) slots ≡ true → found_on rule a f slots ≡ found_on rule b f slots
  by_same rule [] t = refl
  by_same rule (s ∷ slots) t = on_same rule t (s ∷ slots)

  pub heads_same : (rules : List RuleId) → list_all comes_to_heads rules ≡ true → head_found_all rules a f ≡ head_found_all rules b f
  heads_same [] t = refl
  heads_same (rule ∷ rules) t =
      let ts = and_parts (comes_to_heads rule) (list_all comes_to_heads rules) t in
      both_same (by_same rule (head_slots_of rule) ts.0) (heads_same rules ts.1)
