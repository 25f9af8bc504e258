use Rattle.std.proofs.Common.{◌≡◌, None, arith, rules, subst, sym}
use Rattle.std.specs.declared.option.Option.{Option}
use Rattle.timetable.specs.Timetables.{Tables}
use Rattle.rule_history.specs.Answered.{tables_of}
use Rattle.rule_table.specs.Judged.{found_all}
use Rattle.rule_table.specs.Table.{all_rules}
use Rattle.judging.specs.Ruled.{entity_count, entity_rules}
use Rattle.judging.specs.Whole.{entity_found, whole_answer}
use Rattle.judging.proofs.Beside.{beside_timetable, found_beside, placed}
use Rattle.judging.proofs.marking.rules_with.Goals as goal

pub returns-then-is_present-clause-found : goal.returns-then-is_present-clause-found
unfolding entity_found
returns-then-is_present-clause-found c u heads key e = placed (whole_answer (tables_of c.args.table.now) u heads key e) key e all_rules

pub returns-then-is_present-clause-within : goal.returns-then-is_present-clause-within
returns-then-is_present-clause-within c = omega (arith, entity_count)

pub returns-else-is_present-clause-within : goal.returns-else-is_present-clause-within
returns-else-is_present-clause-within c = omega (arith, entity_count)

pub returns-else-is_present-clause-found : goal.returns-else-is_present-clause-found
unfolding entity_rules
returns-else-is_present-clause-found c u heads key e =
    let absent : tables_of c.args.table.now ≡ None = search rules in
    subst (λ (t : Option Tables). found_all beside_timetable (whole_answer t u heads key e) key e ≡ entity_found t u heads key e) (sym absent) (found_beside u heads key e)
