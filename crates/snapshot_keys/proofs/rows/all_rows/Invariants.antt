use Rattle.std.proofs.Common.{drop}
use Rattle.judging.specs.Judged.{seat_rows}
use Rattle.snapshot_keys.specs.Places.{AreWithin, placed}
use Rattle.snapshot_keys.proofs.ByIds.{SoFar}
use Rattle.snapshot_keys.proofs.rows.all_rows.Given as goal

abbrev pub invariant-loop-place : goal.invariant-loop-place
invariant-loop-place l = record {
  so_far : SoFar l.rows (seat_rows (placed l.kept (drop l.place-index l.places))) (seat_rows (placed l.kept l.places));
  within : AreWithin l.kept (drop l.place-index l.places);
}
