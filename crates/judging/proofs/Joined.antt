-- The findings of the groups, rule by rule, are those of all rules.
use Rattle.std.specs.Prelude.{◌≡◌, true, List, ◌++◌, Option, Some, None, refl}
use Rattle.std.specs.Option.{option_or}
use Rattle.std.specs.List.{list_all}
use Rattle.std.proofs.Common.{sym, ap, ◌∙◌}
use borrow.Author.Tests.{clash}
use Rattle.feed_values.specs.declared.slot.Slot.TheVariants.{S3}
use Rattle.feed_values.specs.declared.cell_value.CellValue.{CellValue}
use Rattle.feed_values.specs.Schema.{Value}
use Rattle.feed_values.specs.Messages.{entity}
use Rattle.feed_values.specs.Snapshot.{timestamp_of}
use Rattle.timetable.specs.Timetables.{Tables}
use Rattle.rule_table.specs.declared.ask.Ask.{Ask}
use Rattle.rule_table.specs.declared.ask.Ask.TheVariants as ask
use Rattle.rule_table.specs.declared.key.EntityKey.{EntityKey}
use Rattle.rule_table.specs.Answers.{Heads, Gathered, pair_answer, bound_answer, peak_answer, gathered_answer}
use Rattle.rule_history.specs.Answered.{local_answer, timetable_answer}
use Rattle.rule_table.specs.Table.{all_rules}
use Rattle.rule_table.specs.Judged.{found_all}
use Rattle.rule_table.specs.GroupLaws.{all_append}
use Rattle.rule_table.specs.CitedLaws.{both_same}
use Rattle.rule_table.specs.declared.rule.RuleId.{RuleId}
use Rattle.rule_table.specs.Groups.{NoneInBoth, are_apart}
use Rattle.rule_table.specs.Sources.{comes_to, source_of, is_local, is_paired, is_bounded, is_peaked}
use Rattle.rule_table.specs.Same.{SameFrom, all_same}
use Rattle.message_rules.specs.Message.{message_rules}
use Rattle.schedule_rules.specs.Schedule.{schedule_rules}
use Rattle.pairing_rules.specs.Pairing.{pairing_rules}
use Rattle.history_rules.specs.Rules.{bound_rules, peak_rules}
use Rattle.judging.specs.Ruled.{by_rule, in_rule_order}
use Rattle.judging.specs.Whole.{whole_answer, entity_found}
use Rattle.judging.proofs.Ruled.{is_covered, ruled}

pub groups_apart : NoneInBoth message_rules schedule_rules
unfolding schedule_rules
groups_apart = refl

local_from : list_all (comes_to is_local) schedule_rules ≡ true
unfolding schedule_rules
local_from = refl

abbrev entity_rules : List RuleId
entity_rules = ((message_rules ++ schedule_rules) ++ pairing_rules) ++ (bound_rules ++ peak_rules)

entity_apart : are_apart entity_rules ≡ true
unfolding schedule_rules
entity_apart = refl

all_covered : list_all (is_covered entity_rules) all_rules ≡ true
unfolding schedule_rules
all_covered = refl

or_none : {A : Type 0} (o : Option A) → option_or o None ≡ o
or_none None = refl
or_none (Some x) = refl

module _ (t : Option Tables) (u : Gathered) (heads : Heads) (k : EntityKey) (e : Value entity) where
  abbrev whole : Ask → Option CellValue
  whole = whole_answer t u heads k e

  pub local_same : SameFrom is_local (local_answer t k e) whole
  local_same (ask.Cell p) h = refl
  local_same ask.Occurrence h = refl
  local_same (ask.HeadNow S3) h = absurd (clash h)
  local_same (ask.HeadNow _) h = absurd (clash h)
  local_same (ask.HeadBefore s) h = absurd (clash h)
  local_same ask.Moment h = absurd (clash h)
  local_same ask.EntitiesChanged h = absurd (clash h)
  local_same (ask.TripKnown trip) h = sym (or_none (timetable_answer t (ask.TripKnown trip)))
  local_same (ask.RouteKnown route) h = sym (or_none (timetable_answer t (ask.RouteKnown route)))
  local_same (ask.AgencyKnown agency) h = sym (or_none (timetable_answer t (ask.AgencyKnown agency)))
  local_same (ask.StopKind stop) h = sym (or_none (timetable_answer t (ask.StopKind stop)))
  local_same (ask.TripRoute trip) h = sym (or_none (timetable_answer t (ask.TripRoute trip)))
  local_same (ask.TripDirection trip) h = sym (or_none (timetable_answer t (ask.TripDirection trip)))
  local_same (ask.TripExact trip) h = sym (or_none (timetable_answer t (ask.TripExact trip)))
  local_same (ask.OnGrid trip time) h = sym (or_none (timetable_answer t (ask.OnGrid trip time)))
  local_same (ask.VisitsTwice trip) h = sym (or_none (timetable_answer t (ask.VisitsTwice trip)))
  local_same (ask.FirstArrival trip) h = sym (or_none (timetable_answer t (ask.FirstArrival trip)))
  local_same (ask.StopAt trip n) h = sym (or_none (timetable_answer t (ask.StopAt trip n)))
  local_same (ask.ArrivalAt trip n) h = sym (or_none (timetable_answer t (ask.ArrivalAt trip n)))
  local_same (ask.DepartureAt trip n) h = sym (or_none (timetable_answer t (ask.DepartureAt trip n)))
  local_same (ask.FirstVehicle kind trip) h = absurd (clash h)
  local_same (ask.HasPair kind trip vehicle) h = absurd (clash h)
  local_same (ask.AnyRow kind) h = absurd (clash h)
  local_same (ask.HasTrip kind trip) h = absurd (clash h)
  local_same (ask.HasVehicle kind vehicle) h = absurd (clash h)
  local_same (ask.FirstId feed vehicle) h = absurd (clash h)
  local_same (ask.FirstOccurrence feed vehicle) h = absurd (clash h)
  local_same (ask.Peak feed vehicle) h = absurd (clash h)

  -- a timetable answers nothing of pairing rows
  no_table : (q : Ask) → is_paired (source_of q) ≡ true → timetable_answer t q ≡ None
  no_table q h = either t
    where
      table : (s : Tables) → timetable_answer (Some s) q ≡ None
      table s = at q h where
        at : (r : Ask) → is_paired (source_of r) ≡ true → timetable_answer (Some s) r ≡ None
        at (ask.Cell p) m = refl
        at ask.Occurrence m = refl
        at (ask.HeadNow S3) m = absurd (clash m)
        at (ask.HeadNow _) m = absurd (clash m)
        at (ask.HeadBefore s) m = absurd (clash m)
        at ask.Moment m = absurd (clash m)
        at ask.EntitiesChanged m = absurd (clash m)
        at (ask.FirstVehicle kind trip) m = refl
        at (ask.HasPair kind trip vehicle) m = refl
        at (ask.AnyRow kind) m = refl
        at (ask.HasTrip kind trip) m = refl
        at (ask.HasVehicle kind vehicle) m = refl
        at (ask.FirstId feed vehicle) m = refl
        at (ask.FirstOccurrence feed vehicle) m = refl
        at _ m = absurd (clash m)

      either : (o : Option Tables) → timetable_answer o q ≡ None
      either None = refl
      either (Some s) = table s

  pair_same : SameFrom is_paired (pair_answer u.rows k e) whole
  pair_same (ask.Cell p) h = refl
  pair_same ask.Occurrence h = refl
  pair_same (ask.HeadNow S3) h = absurd (clash h)
  pair_same (ask.HeadNow _) h = absurd (clash h)
  pair_same (ask.HeadBefore s) h = absurd (clash h)
  pair_same ask.Moment h = absurd (clash h)
  pair_same ask.EntitiesChanged h = absurd (clash h)
  pair_same (ask.FirstVehicle kind trip) h = sym (ap (λ o. option_or o (gathered_answer u (ask.FirstVehicle kind trip))) (no_table (ask.FirstVehicle kind trip) h))
  pair_same (ask.HasPair kind trip vehicle) h = sym (ap (λ o. option_or o (gathered_answer u (ask.HasPair kind trip vehicle))) (no_table (ask.HasPair kind trip vehicle) h))
  pair_same (ask.AnyRow kind) h = sym (ap (λ o. option_or o (gathered_answer u (ask.AnyRow kind))) (no_table (ask.AnyRow kind) h))
  pair_same (ask.HasTrip kind trip) h = sym (ap (λ o. option_or o (gathered_answer u (ask.HasTrip kind trip))) (no_table (ask.HasTrip kind trip) h))
  pair_same (ask.HasVehicle kind vehicle) h = sym (ap (λ o. option_or o (gathered_answer u (ask.HasVehicle kind vehicle))) (no_table (ask.HasVehicle kind vehicle) h))
  pair_same (ask.FirstId feed vehicle) h = sym (ap (λ o. option_or o (gathered_answer u (ask.FirstId feed vehicle))) (no_table (ask.FirstId feed vehicle) h))
  pair_same (ask.FirstOccurrence feed vehicle) h = sym (ap (λ o. option_or o (gathered_answer u (ask.FirstOccurrence feed vehicle))) (no_table (ask.FirstOccurrence feed vehicle) h))
  pair_same _ h = absurd (clash h)

  bound_same : SameFrom is_bounded (bound_answer (timestamp_of heads.header) heads.moment k e) whole
  bound_same (ask.Cell p) h = refl
  bound_same ask.Occurrence h = refl
  bound_same (ask.HeadNow S3) h = refl
  bound_same (ask.HeadNow _) h = absurd (clash h)
  bound_same ask.Moment h = refl
  bound_same _ h = absurd (clash h)

  peak_same : SameFrom is_peaked (peak_answer u.peaks k e) whole
  peak_same (ask.Cell p) h = refl
  peak_same ask.Occurrence h = refl
  peak_same (ask.HeadNow S3) h = absurd (clash h)
  peak_same (ask.HeadNow _) h = absurd (clash h)
  peak_same (ask.Peak feed vehicle) h = sym (ap (λ o. option_or o (gathered_answer u (ask.Peak feed vehicle))) (none t))
    where
      none : (o : Option Tables) → timetable_answer o (ask.Peak feed vehicle) ≡ None
      none None = refl
      none (Some s) = refl
  peak_same _ h = absurd (clash h)

  pub joined : in_rule_order (((found_all message_rules (local_answer t k e) k e ++ found_all schedule_rules (local_answer t k e) k e) ++ found_all pairing_rules (pair_answer u.rows k e) k e)
      ++ (found_all bound_rules (bound_answer (timestamp_of heads.header) heads.moment k e) k e ++ found_all peak_rules (peak_answer u.peaks k e) k e)) ≡ entity_found t u heads k e
  unfolding in_rule_order entity_found
  joined =
      ap (by_rule all_rules)
      (both_same (both_same (both_same (all_same is_local (local_answer t k e) whole local_same message_rules refl k e) (all_same is_local (local_answer t k e) whole local_same schedule_rules local_from k e)
      ∙ sym (all_append message_rules schedule_rules whole k e))
      (all_same is_paired (pair_answer u.rows k e) whole pair_same pairing_rules refl k e)
      ∙ sym (all_append (message_rules ++ schedule_rules) pairing_rules whole k e))
      (both_same (all_same is_bounded (bound_answer (timestamp_of heads.header) heads.moment k e) whole bound_same bound_rules refl k e) (all_same is_peaked (peak_answer u.peaks k e) whole peak_same peak_rules refl k e)
      ∙ sym (all_append bound_rules peak_rules whole k e))
      ∙ sym (all_append ((message_rules ++ schedule_rules) ++ pairing_rules) (bound_rules ++ peak_rules) whole k e))
      ∙ ruled whole k e entity_rules all_rules entity_apart all_covered
