use Rattle.std.proofs.Common.{◌≡◌, ℕ, List}
use Rattle.history_rules.specs.HeldPeaks.{peak_of}
use Rattle.vehicle_peaks.specs.Rises.{with_rises}
use Rattle.vehicle_peaks.proofs.Raising.{AreInOrder, by_id}
use Rattle.vehicle_peaks.proofs.rises.raise_all.Given as goal

abbrev pub invariant-loop-vehicle : goal.invariant-loop-vehicle
invariant-loop-vehicle l =
    record {
      ordered : AreInOrder l.vehicle-iterator;
      raised : (f : ℕ) (v : List ℕ) → with_rises (by_id l.vehicle-iterator) l.feed (peak_of l.raised) f v ≡ with_rises (by_id l.stamps.entries) l.feed (peak_of l.fn.peaks) f v;
    }
