use Rattle.rule_history.specs.Answered.{tables_of}
use Rattle.exchanged_timetables.specs.cached_laws.State.{State}
use Rattle.follow_engine.proofs.Lasts.{nothing_at, nothing_then}
use Rattle.follow_engine.proofs.engine.Engine.new.Goals as goal

pub returns : goal.returns
returns c =
    let state : State = record { index = c.new.result; headers = c.new-2.result.items; peaks = c.new-3.result } in
    nothing_then state (nothing_at c.new.result c.new-2.result.items c.new-3.result c.new.ensures c.new-2.ensures.items c.new-3.ensures) c.stands.ensures (tables_of c.args.table)
