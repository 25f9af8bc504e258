use Rattle.follow_engine.specs.Deltas.{delta_value}
use Rattle.run_rows.proofs.row.take.Goals as goal

pub returns-in_ok-lines-in-Ok-clause-outcome : goal.returns-in_ok-lines-in-Ok-clause-outcome
returns-in_ok-lines-in-Ok-clause-outcome g c =
    rw c.in-Ok.is (record {
      delta = delta_value c.in_ok-engine-in-Ok.delta;
      stands = c.in_ok-engine-in-Ok.ensures.stands;
      matches = c.in_ok-engine-in-Ok.ensures.matches;
      numbers = c.in_ok-engine-in-Ok.ensures.numbers;
      changes = c.in_ok-engine-in-Ok.ensures.changes;
      told = c.in_ok-lines-in-Ok.ensures;
    })
