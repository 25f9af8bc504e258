-- The parts of an entity's findings are all of them.
use Rattle.std.specs.Prelude.{◌≡◌, ℕ, ℤ, ◌==◌, ◌||◌, Bool, true, false, cond, List, [], ◌∷◌, ◌++◌, filter, Option, Some, None, option_map, refl}
use Rattle.std.specs.Option.{option_or}
use Rattle.std.proofs.Common.{sym, ap, ◌∙◌, subst, append-nil}
use borrow.Author.Tests.{eqb-true, eq-eqb}
use Rattle.feed_values.specs.Schema.{Value}
use Rattle.feed_values.specs.Messages.{feed_header, entity}
use Rattle.feed_values.specs.Snapshot.{header_of, timestamp_of, entity_of}
use Rattle.feed_values.specs.declared.cell_value.CellValue.{CellValue}
use Rattle.timetable.specs.Timetables.{Tables}
use Rattle.rule_table.specs.declared.rule.RuleId.{RuleId}
use Rattle.rule_table.specs.declared.ask.Ask.{Ask}
use Rattle.rule_table.specs.declared.key.EntityKey.{EntityKey}
use Rattle.rule_table.specs.Answers.{Gathered, heads_answer, entity_answer, gathered_answer, pair_answer, bound_answer, peak_answer}
use Rattle.rule_table.specs.Table.{all_rules}
use Rattle.rule_table.specs.Sources.{source_of}
use Rattle.rule_table.specs.Same.{all_same}
use Rattle.rule_table.specs.SameHeads.{heads_same}
use Rattle.rule_table.specs.Found.{Found}
use Rattle.rule_table.specs.Judged.{found_all}
use Rattle.rule_table.specs.Groups.{AreOf, IsOf, IsUnder, has_rule}
use Rattle.rule_table.specs.GroupLaws.{each_weaken, all_own, all_append}
use Rattle.rule_table.specs.PairAgree.{Agree}
use Rattle.rule_table.specs.Pairs.{PairRow, rows_of}
use Rattle.rule_table.specs.Peaks.{PeakMap, SamePeak}
use Rattle.rule_table.specs.EachRule.{each_rule}
use Rattle.rule_table.specs.Rules.{rule_number}
use Rattle.rule_history.specs.History.{Snapshot}
use Rattle.rule_history.specs.Answered.{heads_of, local_answer, timetable_answer, entities_differ}
use Rattle.rule_history.specs.Standing.{Standing}
use Rattle.judging.specs.message_rules.Message.{message_rules}
use Rattle.judging.specs.schedule_rules.Schedule.{schedule_rules}
use Rattle.pairing_rules.specs.Agreeing.{rules_agree, rules_none}
use Rattle.pairing_rules.specs.Pairing.{pairing_rules}
use Rattle.history_rules.specs.Rules.{bound_rules, peak_rules}
use Rattle.history_rules.specs.SamePeaks.{peaks_same}
use Rattle.judging.specs.Ruled.{of_rule, by_rule, in_rule_order}
use Rattle.judging.specs.Whole as whole
use Rattle.judging.proofs.Joined.{joined}
use Rattle.engine_laws.specs.HeldFeeds.{held_answer, entity_found}
use Rattle.engine_laws.specs.Standings.{renewed}
use Rattle.engine_laws.proofs.AtHand.{heads_first, is_held, heads_limits}
use Rattle.part_laws.specs.standing_walks.Merged.{merged_four}
use Rattle.part_laws.specs.FourParts.{AreFourGroups, AreFoundOf, StandOf, found_in_order}
use Rattle.part_laws.specs.Bounded.{AreNumbersHeld, NoneAbove, low_bound}
use Rattle.part_laws.proofs.Bounded.{bounds_are_low}
use Rattle.part_laws.proofs.FourParts.{found_ruled, merged_renews}
use Rattle.entity_parts.specs.Found.{local_found, paired_found, bounded_found, peaked_found, local_rules}
use Rattle.entity_parts.specs.Whole.{PartsAreTheWhole}

-- ---- what is found by what is at hand
pub entity_is : (t : Option Tables) (u : Gathered) (s : Snapshot) (b : Option Snapshot) (k : EntityKey) (p : List ℕ) → whole.entity_found t u (heads_of s b) k (entity_of p) ≡ entity_found t u s (k, p)
unfolding whole.entity_found
entity_is t u s b k p =
    all_same is_held (whole.whole_answer t u (heads_of s b) k (entity_of p)) (held_answer t u s k (entity_of p)) agree all_rules refl k (entity_of p)
  where
    agree : (a : Ask) → is_held (source_of a) ≡ true → whole.whole_answer t u (heads_of s b) k (entity_of p) a ≡ held_answer t u s k (entity_of p) a
    agree a m = ap (λ x. option_or (entity_answer k (entity_of p) a) (option_or x (option_or (timetable_answer t a) (gathered_answer u a)))) (heads_limits s b a m)

-- ---- each part is of its own rules
pub four_groups : AreFourGroups local_rules pairing_rules bound_rules peak_rules
unfolding schedule_rules
four_groups = record { first_second = refl; first_third = refl; first_fourth = refl; second_third = refl; second_fourth = refl; third_fourth = refl }

found_of : (rules : List RuleId) (answer : Ask → Option CellValue) (k : EntityKey) (e : Value entity) → AreFoundOf rules (found_all rules answer k e)
found_of rules answer k e = each_weaken (IsOf rules (IsUnder k)) (λ f. has_rule rules f.rule ≡ true) (λ f o. o.rule) (found_all rules answer k e) (all_own rules answer k e)

module _ (t : Option Tables) (u : Gathered) (s : Snapshot) (k : EntityKey) (p : List ℕ) where
  abbrev e : Value entity
  e = entity_of p

  abbrev message : List Found
  message = found_all message_rules (local_answer t k e) k e

  abbrev schedule : List Found
  schedule = found_all schedule_rules (local_answer t k e) k e

  abbrev pairs : List Found
  pairs = found_all pairing_rules (pair_answer u.rows k e) k e

  abbrev bounds : List Found
  bounds = found_all bound_rules (bound_answer (timestamp_of (header_of s.bytes)) s.moment k e) k e

  abbrev peaks : List Found
  peaks = found_all peak_rules (peak_answer u.peaks k e) k e

  whole_is : (n : ℕ) (local paired bounded peaked : List Standing) → StandOf local_rules local → StandOf pairing_rules paired → StandOf bound_rules bounded → StandOf peak_rules peaked →
      merged_four (renewed local n (found_in_order (message ++ schedule))) (renewed paired n (found_in_order pairs)) (renewed bounded n (found_in_order bounds)) (renewed peaked n (found_in_order peaks))
      ≡ renewed (merged_four local paired bounded peaked) n (entity_found t u s (k, p))
  unfolding in_rule_order
  whole_is n local paired bounded peaked hl hp hb hk =
      merged_renews local_rules pairing_rules bound_rules peak_rules local paired bounded peaked
      (record { groups = four_groups; first = hl; second = hp; third = hb; fourth = hk }) n
      (message ++ schedule) pairs bounds peaks
      (subst (AreFoundOf local_rules) (all_append message_rules schedule_rules (local_answer t k e) k e) (found_of local_rules (local_answer t k e) k e))
      (found_of pairing_rules (pair_answer u.rows k e) k e)
      (found_of bound_rules (bound_answer (timestamp_of (header_of s.bytes)) s.moment k e) k e)
      (found_of peak_rules (peak_answer u.peaks k e) k e)
      ∙ ap (renewed (merged_four local paired bounded peaked) n) (joined t u (heads_of s None) k e ∙ entity_is t u s None k p)

pub parts_are_the_whole : PartsAreTheWhole
unfolding in_rule_order
parts_are_the_whole t u s k p n local paired bounded peaked hl hp hb hk = whole_is t u s k p n local paired bounded peaked hl hp hb hk

-- ---- what is found of each part is of its own rules
pub local_of : (t : Option Tables) (k : EntityKey) (e : Value entity) → AreFoundOf local_rules (local_found t k e)
unfolding in_rule_order
local_of t k e =
    found_ruled local_rules all_rules (found_all message_rules (local_answer t k e) k e ++ found_all schedule_rules (local_answer t k e) k e)
    (subst (AreFoundOf local_rules) (all_append message_rules schedule_rules (local_answer t k e) k e) (found_of local_rules (local_answer t k e) k e))

pub paired_of : (rows : List PairRow) (k : EntityKey) (e : Value entity) → AreFoundOf pairing_rules (paired_found rows k e)
unfolding in_rule_order
paired_of rows k e = found_ruled pairing_rules all_rules (found_all pairing_rules (pair_answer rows k e) k e) (found_of pairing_rules (pair_answer rows k e) k e)

pub bounded_of : (timestamp : Option ℤ) (moment : ℕ) (k : EntityKey) (e : Value entity) → AreFoundOf bound_rules (bounded_found timestamp moment k e)
unfolding in_rule_order
bounded_of timestamp moment k e =
    found_ruled bound_rules all_rules (found_all bound_rules (bound_answer timestamp moment k e) k e) (found_of bound_rules (bound_answer timestamp moment k e) k e)

pub peaked_of : (peaks : PeakMap) (k : EntityKey) (e : Value entity) → AreFoundOf peak_rules (peaked_found peaks k e)
unfolding in_rule_order
peaked_of peaks k e = found_ruled peak_rules all_rules (found_all peak_rules (peak_answer peaks k e) k e) (found_of peak_rules (peak_answer peaks k e) k e)

-- ---- what stays
pub peaked_same : (u v : PeakMap) (k : EntityKey) (e : Value entity) → SamePeak u v k e → peaked_found u k e ≡ peaked_found v k e
peaked_same u v k e h = ap in_rule_order (peaks_same u v k e h)

pub paired_agree : (u v : List PairRow) (k : EntityKey) (e : Value entity) → Agree u v k e → paired_found u k e ≡ paired_found v k e
paired_agree u v k e h = ap in_rule_order (rules_agree u v k e h)

pub paired_none : (u : List PairRow) (k : EntityKey) (e : Value entity) → rows_of k e ≡ [] → paired_found u k e ≡ []
unfolding in_rule_order
paired_none u k e h = ap in_rule_order (rules_none u k e h)

-- nothing is found by bounds exactly where no timestamp is above the lower one
ordered_none : (fs : List Found) → in_rule_order fs ≡ [] → AreFoundOf bound_rules fs → fs ≡ []
unfolding in_rule_order
ordered_none [] h all = refl
ordered_none (f ∷ fs) h all = absurd (some all_rules (each_rule (has_rule all_rules) refl f.rule) h)
  where
    some : (rules : List RuleId) → has_rule rules f.rule ≡ true → by_rule rules (f ∷ fs) ≡ [] → ⊥
    some [] has e = cc
    some (r ∷ rules) has e =
        elim (rule_number r == rule_number f.rule) as (λ b. (rule_number r == rule_number f.rule) ≡ b → (b || has_rule rules f.rule) ≡ true → by_rule (r ∷ rules) (f ∷ fs) ≡ [] → ⊥) [
          | true ↦ λ same _ e. first (rule_number f.rule == rule_number r) (eq-eqb (rule_number f.rule) (rule_number r) (sym (eqb-true (rule_number r) (rule_number f.rule) same))) e
          | false ↦ λ _ m e. some rules m (second (filter (of_rule r) (f ∷ fs)) (by_rule rules (f ∷ fs)) e)
        ] refl has e
      where
        first : (b : Bool) → b ≡ true → (cond b (f ∷ filter (of_rule r) fs) (filter (of_rule r) fs) ++ by_rule rules (f ∷ fs)) ≡ [] → ⊥
        first true t e = cc
        first false t e = cc

        second : (xs ys : List Found) → (xs ++ ys) ≡ [] → ys ≡ []
        second [] ys e = e
        second (x ∷ xs) ys e = cc

pub bounded_none : (timestamp : Option ℤ) (moment : ℕ) (k : EntityKey) (e : Value entity) → AreNumbersHeld timestamp moment e → NoneAbove (Some (low_bound timestamp moment)) e → bounded_found timestamp moment k e ≡ []
unfolding in_rule_order
bounded_none timestamp moment k e held none = ap in_rule_order ((bounds_are_low timestamp moment k e held).1 none)

pub none_bounded : (timestamp : Option ℤ) (moment : ℕ) (k : EntityKey) (e : Value entity) → AreNumbersHeld timestamp moment e → bounded_found timestamp moment k e ≡ [] → NoneAbove (Some (low_bound timestamp moment)) e
none_bounded timestamp moment k e held none =
    (bounds_are_low timestamp moment k e held).0
    (ordered_none (found_all bound_rules (bound_answer timestamp moment k e) k e) none (found_of bound_rules (bound_answer timestamp moment k e) k e))
