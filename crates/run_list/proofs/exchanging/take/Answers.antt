use Rattle.rule_history.specs.Answered.{tables_of}
use Rattle.run_rows.specs.follow_engine.Deltas.{all_closed, all_opened}
use Rattle.run_list.proofs.States.{exchange_gives}
use Rattle.run_list.proofs.exchanging.take.Goals as goal

pub returns-clause-gives : goal.returns-clause-gives
returns-clause-gives g c = λ u is.
    let change = c.in_ok-engine.change in
    let facts = c.in_ok-engine.ensures in
    exchange_gives c.args.number u c.args.engine c.in_ok-engine.engine c.in_ok-lines.lines change.entities change.retested (all_opened change.opened) (all_closed change.closed) (tables_of c.args.table) is
    facts.matches facts.numbers facts.changes facts.entities facts.retested c.in_ok-lines.ensures
