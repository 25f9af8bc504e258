use Rattle.std.proofs.Common.{rules, ◌≡◌, ◌+◌, ◌≤◌, [], ◌++◌, false, None, length, refl, sym, subst, OnOk}
use Rattle.std.proofs.lemmas.List.{append-nil}
use Rattle.timetable.specs.Lookups.{is_present}
use Rattle.feed_values.specs.Views.{entity_value}
use Rattle.rule_history.specs.Answered.{tables_of, local_answer}
use Rattle.rule_table.specs.Judged.{found_all}
use Rattle.schedule_rules.specs.Schedule.{schedule_rules}
use Rattle.schedule_rules.proofs.Absent.{no_timetable}
use Rattle.schedule_rules.proofs.group.ScheduleGroupLocalRule.judge.Goals as goal

-- the listed rules are the group's
pub returns-clause-found : goal.returns-clause-found
returns-clause-found g c =
    subst (λ rules. OnOk c.judge.result (c.judge.new.out ≡ c.args.out.now ++ found_all rules (local_answer (tables_of c.args.table.now) c.args.key.now (entity_value c.args.entity.now)) c.args.key.now (entity_value c.args.entity.now)))
    c.args.self.now.listed c.judge.ensures.found

pub returns-clause-ticked : goal.returns-clause-ticked
returns-clause-ticked g c = subst (λ rules. OnOk c.judge.result (c.judge.new.steps ≡ c.args.steps.now + length rules)) c.args.self.now.listed c.judge.ensures.ticked

pub returns-clause-most : goal.returns-clause-most
returns-clause-most g c = subst (λ rules. c.judge.new.steps ≤ c.args.steps.now + length rules) c.args.self.now.listed c.judge.ensures.most

-- without a timetable there is nothing to find
pub returns-then-not-is_present-clause-found : goal.returns-then-not-is_present-clause-found
returns-then-not-is_present-clause-found g c =
    let key = c.args.key.now in
    let entity = entity_value c.args.entity.now in
    let absent : is_present c.args.table.now ≡ false = search rules in
    let none : tables_of c.args.table.now ≡ None = rw absent refl in
    let empty : found_all schedule_rules (local_answer (tables_of c.args.table.now) key entity) key entity ≡ [] =
    subst (λ t. found_all schedule_rules (local_answer t key entity) key entity ≡ []) (sym none) (no_timetable key entity) in
    rw empty (sym (append-nil c.args.out.now))
