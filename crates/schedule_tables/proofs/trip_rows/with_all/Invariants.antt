use Rattle.std.proofs.Common.{◌≡◌, ◌++◌}
use Rattle.std.specs.Vec.Iter.{into_iter_items}
use Rattle.schedule_tables.specs.Times.{AreKeyed, AreRising, by_sequence, keyed}
use Rattle.schedule_tables.proofs.trip_rows.with_all.Given as goal

-- those that are left and those of the map make the whole
abbrev pub invariant-loop-time : goal.invariant-loop-time
invariant-loop-time l = record {
  whole : by_sequence (keyed (into_iter_items l.time-iterator) ++ l.late.entries) ≡ by_sequence (keyed l.fn.rising.items ++ l.fn.late.entries);
  rising : AreRising (into_iter_items l.time-iterator);
  keyed : AreKeyed l.late.entries;
}
