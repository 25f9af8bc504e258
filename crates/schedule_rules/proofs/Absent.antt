-- Without a timetable an entry that asks it is never answered, and each rule of the group has such an entry.
use Rattle.std.specs.Prelude.{◌≡◌, ℕ, zero, suc, Bool, true, false, ◌||◌, List, [], ◌∷◌, ◌++◌, Option, Some, None, refl}
use Rattle.std.specs.List.{list_any, list_all}
use Rattle.std.proofs.Common.{sym, ap, ◌∙◌}
use borrow.Author.Tests.{clash}
use Rattle.std.proofs.lemmas.Bool.{and_parts}
use Rattle.feed_values.specs.declared.slot.Slot.{Slot}
use Rattle.feed_values.specs.declared.path.Path.{Path}
use Rattle.feed_values.specs.declared.cell_value.CellValue.{CellValue}
use Rattle.feed_values.specs.Schema.{Value}
use Rattle.feed_values.specs.Messages.{entity}
use Rattle.rule_table.specs.declared.rule.RuleId.{RuleId}
use Rattle.rule_table.specs.declared.ask.Ask.{Ask}
use Rattle.rule_table.specs.declared.ask.Ask.TheVariants as ask
use Rattle.rule_table.specs.declared.row.Cite.{Cite}
use Rattle.rule_table.specs.declared.fact.Fact.{Fact}
use Rattle.rule_table.specs.declared.key.EntityKey.{EntityKey}
use Rattle.rule_table.specs.declared.place.Place.TheVariants as place
use Rattle.rule_table.specs.Asked.{ask_at}
use Rattle.rule_table.specs.Cited.{and_then, answered, fact_at, values_of}
use Rattle.rule_table.specs.CitedLaws.{both_same, Ends, found_ends}
use Rattle.rule_history.specs.Answered.{local_answer}
use Rattle.rule_table.specs.Table.{slots_of, cites_of}
use Rattle.rule_table.specs.Judged.{places_at, found_below, found_in, found_by, found_all}
use Rattle.rule_table.specs.Asks.{asks, is_timetable}
use Rattle.rule_table.specs.Sources.{source_of, source_at, asked_from}
use Rattle.schedule_rules.specs.Schedule.{schedule_rules}
use Rattle.schedule_rules.specs.Absent.{NoTimetableNoFindings}

abbrev pub asks_timetable : RuleId → Bool
asks_timetable = asks is_timetable

-- for what answers nothing that comes from the timetable
module _ (answer : Ask → Option CellValue) (unanswered : (q : Ask) → is_timetable (source_of q) ≡ true → answer q ≡ None) (k : EntityKey) (e : Value entity) where
  silent : (p : Path) (vs : List CellValue) (c : Cite) → is_timetable (source_at c) ≡ true → (f : Fact) → fact_at answer (place.Entity k p) vs c ≡ Some f → ⊥
  silent p vs c t f = asked (ask_at (place.Entity k p) vs c) refl
    where
      asked : (o : Option Ask) → ask_at (place.Entity k p) vs c ≡ o → and_then o (λ q. answered q (answer q)) ≡ Some f → ⊥
      asked None u h = cc
      asked (Some q) u h =
          let n : answer q ≡ None = unanswered q (ap is_timetable (asked_from k p vs c q u) ∙ t) in
          let m : answered q None ≡ Some f = sym (ap (answered q) n) ∙ h in
          cc m

  ends : (p : Path) (before : List Fact) (cs : List Cite) → list_any (λ c. is_timetable (source_at c)) cs ≡ true → Ends answer (place.Entity k p) before cs
  ends p before [] h = cc
  ends p before (c ∷ cs) h =
      elim (is_timetable (source_at c)) as (λ b. is_timetable (source_at c) ≡ b → (b || list_any (λ d. is_timetable (source_at d)) cs) ≡ true → Ends answer (place.Entity k p) before (c ∷ cs)) [
        | true ↦ λ t _ f a. absurd (silent p (values_of before) c t f a)
        | false ↦ λ _ m f a. ends p (before ++ f ∷ []) cs m
      ] refl h

  module _ (rule : RuleId) (asked : asks_timetable rule ≡ true) where
    below_none : (s : Slot) (n : ℕ) → found_below rule answer k s n ≡ []
    below_none s zero = refl
    below_none s (suc i) = both_same (below_none s i) (found_ends rule answer (place.Entity k (record { slot = s; index = i })) (ends (record { slot = s; index = i }) [] (cites_of rule) asked))

    in_none : (slots : List Slot) → found_in rule answer k e slots ≡ []
    in_none [] = refl
    in_none (s ∷ slots) = both_same (below_none s (places_at e s)) (in_none slots)

    -- a rule that asks the timetable has no findings
    pub by_none : found_by rule answer k e ≡ []
    by_none = in_none (slots_of rule)

  all_none : (rules : List RuleId) → list_all asks_timetable rules ≡ true → found_all rules answer k e ≡ []
  all_none [] t = refl
  all_none (rule ∷ rules) t =
      let ts = and_parts (asks_timetable rule) (list_all asks_timetable rules) t in
      both_same (by_none rule ts.0) (all_none rules ts.1)

-- without a timetable an entity answers nothing of it
local_unanswered : (k : EntityKey) (e : Value entity) (q : Ask) → is_timetable (source_of q) ≡ true → local_answer None k e q ≡ None
local_unanswered k e (ask.Cell p) h = absurd (clash h)
local_unanswered k e ask.Occurrence h = absurd (clash h)
local_unanswered k e _ h = refl

all_ask : list_all asks_timetable schedule_rules ≡ true
unfolding schedule_rules
all_ask = refl

pub no_timetable : NoTimetableNoFindings
no_timetable k e = all_none (local_answer None k e) (local_unanswered k e) k e schedule_rules all_ask
