-- Where two timetables agree for an entity, its first list is the same with either.
use Rattle.std.specs.Prelude.{◌≡◌, ◌++◌, Bool, true, false, List, Option, Some, None, bytes_eq, if◌then◌else◌}
use Rattle.std.specs.List.{IsDistinct}
use Rattle.std.proofs.Common.{sym, ap, ◌∙◌}
use Rattle.std.proofs.lemmas.Bool.{not-false}
use Rattle.feed_values.specs.Schema.{Value}
use Rattle.feed_values.specs.Messages.{entity}
use Rattle.timetable.specs.Lookups.{is_present, tables_in}
use Rattle.timetable.specs.Timetables.{Tables}
use Rattle.timetable.specs.declared.timetable.Timetable.{Timetable}
use Rattle.rule_table.specs.declared.key.EntityKey.{EntityKey}
use Rattle.rule_table.specs.Found.{Found}
use Rattle.rule_table.specs.Judged.{found_all}
use Rattle.rule_history.specs.Answered.{local_answer, tables_of}
use Rattle.message_rules.specs.Message.{message_rules}
use Rattle.schedule_rules.specs.Schedule.{schedule_rules}
use Rattle.judging.specs.Ruled.{in_rule_order}
use Rattle.follow_engine.specs.entity_parts.Found.{local_found}
use Rattle.timetable_agree.specs.Agree.{agree}
use Rattle.timetable_agree.specs.Laws.{HasEachStopOnce}
use Rattle.timetable_agree.proofs.Finding.{agreeing_find_alike}
use Rattle.timetable_exchange.specs.Retested.{differs}

pub each_once : (t : Timetable) → IsDistinct bytes_eq (tables_in t).stop_times.stops → HasEachStopOnce (tables_of t)
each_once t h = go (is_present t)
  where
    go : (b : Bool) → HasEachStopOnce (if b then Some (tables_in t) else None)
    go true = h
    go false = tt

pub found_alike : (t u : Option Tables) → HasEachStopOnce t → HasEachStopOnce u → (e : EntityKey × Value entity) → differs t u e ≡ false → local_found t e.0 e.1 ≡ local_found u e.0 e.1
found_alike t u a b e h =
    ap (λ fs. in_rule_order (fs ++ found_all schedule_rules (local_answer t e.0 e.1) e.0 e.1)) (agreeing_find_alike t u a b e.0 e.1 (not-false (agree t u e.1) h) message_rules)
    ∙ ap (λ fs. in_rule_order (found_all message_rules (local_answer u e.0 e.1) e.0 e.1 ++ fs)) (agreeing_find_alike t u a b e.0 e.1 (not-false (agree t u e.1) h) schedule_rules)
