-- The vehicles of a feed whose peak some entities raise, each with its new peak, and the entities that this concerns.
-- (GTFS Realtime Reference 2.0, "VehiclePosition" and "VehicleDescriptor"; peaks are this profile's.)
use Rattle.std.specs.Prelude.{◌≡◌, ℕ, ◌==◌, Bool, false, List, Option, Some, None, is_some, bytes_eq, if◌then◌else◌}
use Rattle.std.specs.Map.{lookup}
use Rattle.feed_values.specs.Snapshot.{entity_of}
use Rattle.rule_table.specs.Peaks.{PeakMap, greater, greatest, vehicle_id_of}
use Rattle.rule_history.specs.History.{Keyed}
use Rattle.rule_history.specs.Peaks.{FeedPeaks, stamps_among}
use Rattle.history_rules.specs.HeldPeaks.{is_below}

-- a timestamp, where there is one and it raises a peak
abbrev pub rise : Option ℕ → Option ℕ → Option ℕ
rise peak None = None
rise peak (Some stamp) = if is_below peak stamp then Some stamp else None

-- ids of vehicles, each with its new peak
abbrev pub RisesById : Type 0
RisesById = List (List ℕ × ℕ)

abbrev pub rise_of : RisesById → FeedPeaks
rise_of rises vehicle = lookup (bytes_eq vehicle) rises

-- They are those of some entities: of each vehicle the greatest timestamp that these give, where it raises the peak.
abbrev pub AreRises : List Keyed → FeedPeaks → RisesById → Type 0
AreRises es peaks rises = (vehicle : List ℕ) → rise_of rises vehicle ≡ rise (peaks vehicle) (greatest (stamps_among vehicle es))

-- peaks of which those of a feed are raised
abbrev pub with_rises : RisesById → ℕ → PeakMap → PeakMap
with_rises rises feed peaks f vehicle = if feed == f then greater (rise_of rises vehicle) (peaks f vehicle) else peaks f vehicle

-- ---- entities
-- whether a vehicle, if one is given, has a new peak
abbrev pub has_rise : RisesById → Option (List ℕ) → Bool
has_rise rises None = false
has_rise rises (Some vehicle) = is_some (rise_of rises vehicle)

-- whether the vehicle of an entity has one, if there is an entity
abbrev pub gives_rise : RisesById → Option (List ℕ) → Bool
gives_rise rises None = false
gives_rise rises (Some payload) = has_rise rises (vehicle_id_of (entity_of payload))
