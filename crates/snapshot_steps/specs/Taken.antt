-- A snapshot that was taken, as the laws have it.
use Rattle.rule_history.specs.History.{Snapshot}
use Rattle.snapshot_steps.specs.declared.taken.Taken.{Taken}

abbrev pub snapshot_of : Taken → Snapshot
snapshot_of taken = record { feed = taken.feed; moment = taken.moment; bytes = taken.kept }
