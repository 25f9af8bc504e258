-- The peaks of a history: of each feed and vehicle id the greatest timestamp in the snapshots before the feed's last one.
-- (GTFS Realtime Reference 2.0, "VehiclePosition"; peaks are this profile's.)
use Rattle.std.specs.Prelude.{ℕ, List, [], ◌∷◌, Option, Some, None}
use Rattle.std.specs.List.{flat_map}
use Rattle.feed_values.specs.Snapshot.{entity_of}
use Rattle.rule_table.specs.Peaks.{PeakMap, greater, greatest, stamps_of}
use Rattle.rule_history.specs.History.{Snapshot, Keyed, recent, entities_of_snapshot}

-- the timestamps of those of some entities that give a vehicle and a timestamp
abbrev pub stamps_among : List ℕ → List Keyed → List ℕ
stamps_among vehicle es = flat_map (λ e. stamps_of vehicle (entity_of e.1)) es

abbrev pub stamps_in : List ℕ → Snapshot → List ℕ
stamps_in vehicle s = stamps_among vehicle (entities_of_snapshot (Some s))

abbrev pub all_but_first : {A : Type 0} → List A → List A
all_but_first [] = []
all_but_first (x ∷ xs) = xs

-- the snapshots of a feed before its last one, the latest first
abbrev pub earlier : List Snapshot → ℕ → List Snapshot
earlier h f = all_but_first (recent h f)

abbrev pub peak : List Snapshot → PeakMap
peak h f vehicle = greatest (flat_map (stamps_in vehicle) (earlier h f))

-- ---- of one feed
abbrev pub FeedPeaks : Type 0
FeedPeaks = List ℕ → Option ℕ

-- once another snapshot comes behind the feed's last one, if it has one
abbrev pub raised_by : Option Snapshot → FeedPeaks → FeedPeaks
raised_by None peaks vehicle = peaks vehicle
raised_by (Some last) peaks vehicle = greater (greatest (stamps_in vehicle last)) (peaks vehicle)
