-- Rules without a place at an entity find nothing there, and without a timetable neither do those that ask it: the others find all.
use Rattle.std.specs.Prelude.{◌≡◌, Bool, true, false, not, List, [], ◌∷◌, ◌++◌, Option, None, filter, if◌then◌else◌, refl}
use Rattle.std.proofs.Common.{ap, sym, ◌∙◌}
use borrow.Author.Tests.{clash}
use Rattle.feed_values.specs.declared.cell_value.CellValue.{CellValue}
use Rattle.feed_values.specs.declared.slot.Slot.{Slot}
use Rattle.feed_values.specs.declared.slot.Slot.TheVariants.{S3}
use Rattle.feed_values.specs.Schema.{Value}
use Rattle.feed_values.specs.Messages.{entity}
use Rattle.rule_table.specs.declared.ask.Ask.{Ask}
use Rattle.rule_table.specs.declared.ask.Ask.TheVariants as ask
use Rattle.rule_table.specs.declared.key.EntityKey.{EntityKey}
use Rattle.rule_table.specs.declared.rule.RuleId.{RuleId}
use Rattle.rule_table.specs.Answers.{Gathered, Heads}
use Rattle.rule_table.specs.Judged.{found_all, found_by, found_in}
use Rattle.rule_table.specs.Sources.{source_of}
use Rattle.rule_table.specs.Table.{all_rules, slots_of}
use Rattle.rule_table.specs.Asks.{has_places, has_some, is_timetable}
use Rattle.schedule_rules.proofs.Absent.{asks_timetable, by_none}
use Rattle.judging.specs.Ruled.{entity_rules}
use Rattle.judging.specs.Whole.{entity_found, whole_answer}

abbrev keeps : RuleId → Bool
keeps rule = not (asks_timetable rule)

-- the rules at an entity that don't ask the timetable
abbrev pub beside_timetable : List RuleId
beside_timetable = filter keeps entity_rules

-- ---- the rules with a place
module _ (answer : Ask → Option CellValue) (k : EntityKey) (e : Value entity) where
  none_in : (rule : RuleId) (slots : List Slot) → has_some slots ≡ false → found_in rule answer k e slots ≡ []
  none_in rule [] h = refl
  none_in rule (s ∷ slots) h = cc

  placed_one : (rule : RuleId) (rules : List RuleId) (b : Bool) → has_places rule ≡ b → found_all (filter has_places rules) answer k e ≡ found_all rules answer k e
      → found_all (if b then rule ∷ filter has_places rules else filter has_places rules) answer k e ≡ found_by rule answer k e ++ found_all rules answer k e
  placed_one rule rules true p h = ap (λ fs. found_by rule answer k e ++ fs) h
  placed_one rule rules false p h = h ∙ ap (λ fs. fs ++ found_all rules answer k e) (sym (none_in rule (slots_of rule) p))

  pub placed : (rules : List RuleId) → found_all (filter has_places rules) answer k e ≡ found_all rules answer k e
  placed [] = refl
  placed (rule ∷ rules) = placed_one rule rules (has_places rule) refl (placed rules)

module _ (u : Gathered) (heads : Heads) (k : EntityKey) (e : Value entity) where
  unanswered : (q : Ask) → is_timetable (source_of q) ≡ true → whole_answer None u heads k e q ≡ None
  unanswered (ask.Cell p) h = absurd (clash h)
  unanswered ask.Occurrence h = absurd (clash h)
  unanswered (ask.HeadNow S3) h = absurd (clash h)
  unanswered (ask.HeadNow _) h = absurd (clash h)
  unanswered (ask.HeadBefore s) h = absurd (clash h)
  unanswered ask.Moment h = absurd (clash h)
  unanswered ask.EntitiesChanged h = absurd (clash h)
  unanswered (ask.FirstVehicle kind trip) h = absurd (clash h)
  unanswered (ask.HasPair kind trip vehicle) h = absurd (clash h)
  unanswered (ask.AnyRow kind) h = absurd (clash h)
  unanswered (ask.HasTrip kind trip) h = absurd (clash h)
  unanswered (ask.HasVehicle kind vehicle) h = absurd (clash h)
  unanswered (ask.FirstId feed vehicle) h = absurd (clash h)
  unanswered (ask.FirstOccurrence feed vehicle) h = absurd (clash h)
  unanswered (ask.Peak feed vehicle) h = absurd (clash h)
  unanswered _ h = refl

  -- one rule more, which is kept or asks the timetable
  one_more : (rule : RuleId) (rules : List RuleId) (b : Bool) → asks_timetable rule ≡ b
      → found_all (filter keeps rules) (whole_answer None u heads k e) k e ≡ found_all rules (whole_answer None u heads k e) k e
      → found_all (if not b then rule ∷ filter keeps rules else filter keeps rules) (whole_answer None u heads k e) k e
      ≡ found_by rule (whole_answer None u heads k e) k e ++ found_all rules (whole_answer None u heads k e) k e
  one_more rule rules true asks h = h ∙ ap (λ fs. fs ++ found_all rules (whole_answer None u heads k e) k e) (sym (by_none (whole_answer None u heads k e) unanswered k e rule asks))
  one_more rule rules false asks h = ap (λ fs. found_by rule (whole_answer None u heads k e) k e ++ fs) h

  kept : (rules : List RuleId) → found_all (filter keeps rules) (whole_answer None u heads k e) k e ≡ found_all rules (whole_answer None u heads k e) k e
  kept [] = refl
  kept (rule ∷ rules) = one_more rule rules (asks_timetable rule) refl (kept rules)

  pub found_beside : found_all beside_timetable (whole_answer None u heads k e) k e ≡ entity_found None u heads k e
  unfolding entity_found entity_rules
  found_beside = kept entity_rules ∙ placed (whole_answer None u heads k e) k e all_rules
