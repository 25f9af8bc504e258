use Rattle.std.proofs.Common.{◌≡◌, Some, true, rules}
use Rattle.feed_values.specs.Cells.{cell_value}
use Rattle.rule_table.specs.declared.ask.Ask.TheVariants as ask
use Rattle.rule_table.specs.Passed.{is_given}
use Rattle.rule_table.specs.Settled.{settled_by}
use Rattle.rule_table.proofs.NoneSettled.{none_settled}
use Rattle.rule_table.proofs.settled.is_settled.Goals as goal

pub returns-in-Some : goal.returns-in-Some
returns-in-Some g c h key =
    let answer = g.A.Answers.answers c.args.answers.now in
    let there : answer (ask.Cell c.args.path) ≡ Some (cell_value c.in-Some.cell) = search rules in
    let settled : settled_by c.args.rule (is_given (cell_value c.in-Some.cell)) ≡ true = search rules in
    none_settled answer c.args.rule key c.args.path (cell_value c.in-Some.cell) there settled
