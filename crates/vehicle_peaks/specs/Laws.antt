-- What rises say of the peaks of a feed before and after another snapshot comes.
use Rattle.std.specs.Prelude.{◌≡◌, ℕ, not, List, Option, is_some}
use Rattle.rule_table.specs.Peaks.{greater}
use Rattle.rule_history.specs.History.{Snapshot, entities_of_snapshot}
use Rattle.rule_history.specs.Peaks.{FeedPeaks, raised_by}
use Rattle.rule_history.specs.Changed.{has_moved, same_natural}
use Rattle.vehicle_peaks.specs.Rises.{RisesById, AreRises, rise, rise_of, has_rise}

-- ---- of one vehicle
abbrev pub RiseRaises : Type 0
RiseRaises = (peak stamp : Option ℕ) → greater (rise peak stamp) peak ≡ greater stamp peak

abbrev pub RiseMoves : Type 0
RiseMoves = (peak stamp : Option ℕ) → is_some (rise peak stamp) ≡ not (same_natural peak (greater stamp peak))

-- ---- of all vehicles of a feed whose last snapshot is given, if it has one
abbrev pub RisesRaise : Type 0
RisesRaise = (last : Option Snapshot) (peaks : FeedPeaks) (rises : RisesById) → AreRises (entities_of_snapshot last) peaks rises → (vehicle : List ℕ) → greater (rise_of rises vehicle) (peaks vehicle) ≡ raised_by last peaks vehicle

abbrev pub RisesMove : Type 0
RisesMove = (last : Option Snapshot) (peaks : FeedPeaks) (rises : RisesById) → AreRises (entities_of_snapshot last) peaks rises → (vehicle : Option (List ℕ)) → has_rise rises vehicle ≡ has_moved peaks (raised_by last peaks) vehicle
