use Rattle.std.proofs.Common.{◌≡◌, rules}
use Rattle.schedule_tables.specs.Times.{keyed}
use Rattle.schedule_tables.proofs.RowLemmas.{rising_entries}
use Rattle.schedule_tables.proofs.trip_rows.in_order.Goals as goal

pub returns-clause-rising : goal.returns-clause-rising
returns-clause-rising c =
    let all : keyed c.loop-time.times.items ≡ c.args.all.entries = search rules in
    rising_entries c.loop-time.times.items c.args.all.entries all c.into_iter-time-iterator.ensures.into_iter_gives.5
