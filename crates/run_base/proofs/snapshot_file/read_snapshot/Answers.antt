use Rattle.run_base.proofs.Refusals.{large_snapshot}
use Rattle.run_base.proofs.snapshot_file.read_snapshot.Goals as goal

pub returns-in-Err-TooLarge-clause-found : goal.returns-in-Err-TooLarge-clause-found
returns-in-Err-TooLarge-clause-found g c =
    rw c.new-in-Err-TooLarge.ensures (large_snapshot _ c.args.file.now (rw c.in-Err-TooLarge.field-0-is at c.in-Err-TooLarge.ensures.whole))
