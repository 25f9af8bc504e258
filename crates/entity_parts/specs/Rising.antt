-- The parts of an entity's findings are in order.
use Rattle.std.specs.Prelude.{◌≡◌, ℕ, ℤ, Bool, true, false, cond, List, [], ◌∷◌, ◌++◌, filter, Option, refl}
use Rattle.std.specs.List.{list_all}
use Rattle.std.proofs.Common.{sym, ap, ◌∙◌, subst}
use Rattle.feed_values.specs.declared.cell_value.CellValue.{CellValue}
use Rattle.feed_values.specs.Schema.{Value}
use Rattle.feed_values.specs.Messages.{entity}
use Rattle.timetable.specs.Timetables.{Tables}
use Rattle.rule_table.specs.declared.rule.RuleId.{RuleId}
use Rattle.rule_table.specs.declared.ask.Ask.{Ask}
use Rattle.rule_table.specs.declared.key.EntityKey.{EntityKey}
use Rattle.rule_table.specs.Answers.{pair_answer, bound_answer, peak_answer}
use Rattle.rule_table.specs.Table.{all_rules, slots_of}
use Rattle.rule_table.specs.Found.{Found}
use Rattle.rule_table.specs.Judged.{found_by, found_all}
use Rattle.rule_table.specs.Groups.{has_rule, are_apart}
use Rattle.rule_table.specs.GroupLaws.{all_append}
use Rattle.rule_table.specs.Pairs.{PairRow}
use Rattle.rule_table.specs.Peaks.{PeakMap}
use Rattle.rule_history.specs.Answered.{local_answer}
use Rattle.judging.specs.message_rules.Message.{message_rules}
use Rattle.judging.specs.schedule_rules.Schedule.{schedule_rules}
use Rattle.pairing_rules.specs.Pairing.{pairing_rules}
use Rattle.history_rules.specs.Rules.{bound_rules, peak_rules}
use Rattle.judging.specs.Ruled.{of_rule, by_rule, in_rule_order}
use Rattle.judging.proofs.Ruled.{is_covered, picked, ruled}
use Rattle.engine_laws.specs.Order.{found_cmp, Rises}
use Rattle.engine_laws.proofs.Ascending.{are_sorted, found_ascend}
use Rattle.entity_parts.specs.Found.{local_found, paired_found, bounded_found, peaked_found, local_rules}
use Rattle.entity_parts.specs.Whole.{PartsRise}

module _ (answer : Ask → Option CellValue) (k : EntityKey) (e : Value entity) (rules : List RuleId) (apart : are_apart rules ≡ true) where
  abbrev found : List Found
  found = found_all rules answer k e

  -- the rules that aren't of the group have nothing
  narrowed : (all : List RuleId) → by_rule all found ≡ by_rule (filter (has_rule rules) all) found
  narrowed [] = refl
  narrowed (r ∷ all) =
      elim (has_rule rules r) as (λ b. has_rule rules r ≡ b → by_rule (r ∷ all) found ≡ by_rule (cond b (r ∷ filter (has_rule rules) all) (filter (has_rule rules) all)) found) [
        | true ↦ λ _. ap (λ xs. filter (of_rule r) found ++ xs) (narrowed all)
        | false ↦ λ h. ap (λ xs. xs ++ by_rule all found) (picked answer k e r rules apart ∙ ap (λ b. cond b (found_by r answer k e) []) h) ∙ narrowed all
      ] refl

  ascends : list_all (is_covered rules) (filter (has_rule rules) all_rules) ≡ true → are_sorted slots_of 0 (filter (has_rule rules) all_rules) ≡ true → Rises found_cmp (by_rule all_rules found)
  ascends covered sorted =
      subst (Rises found_cmp) (sym (narrowed all_rules ∙ ruled answer k e rules (filter (has_rule rules) all_rules) apart covered)) (found_ascend answer k e (filter (has_rule rules) all_rules) sorted)

pub local_rises : (t : Option Tables) (k : EntityKey) (e : Value entity) → Rises found_cmp (local_found t k e)
unfolding in_rule_order schedule_rules
local_rises t k e =
    subst (λ fs. Rises found_cmp (by_rule all_rules fs)) (all_append message_rules schedule_rules (local_answer t k e) k e) (ascends (local_answer t k e) k e local_rules refl refl refl)

pub paired_rises : (rows : List PairRow) (k : EntityKey) (e : Value entity) → Rises found_cmp (paired_found rows k e)
unfolding in_rule_order
paired_rises rows k e = ascends (pair_answer rows k e) k e pairing_rules refl refl refl

pub bounded_rises : (timestamp : Option ℤ) (moment : ℕ) (k : EntityKey) (e : Value entity) → Rises found_cmp (bounded_found timestamp moment k e)
unfolding in_rule_order
bounded_rises timestamp moment k e = ascends (bound_answer timestamp moment k e) k e bound_rules refl refl refl

pub peaked_rises : (peaks : PeakMap) (k : EntityKey) (e : Value entity) → Rises found_cmp (peaked_found peaks k e)
unfolding in_rule_order
peaked_rises peaks k e = ascends (peak_answer peaks k e) k e peak_rules refl refl refl

pub parts_rise : PartsRise
parts_rise = record { local = local_rises; paired = paired_rises; bounded = bounded_rises; peaked = peaked_rises }
