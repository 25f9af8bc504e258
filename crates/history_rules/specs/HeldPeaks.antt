-- Peaks as they are held: of each feed, by its number, the ids of its vehicles, each with its greatest timestamp.
-- (GTFS Realtime Reference 2.0, "VehiclePosition" and "VehicleDescriptor"; peaks are this profile's.)
use Rattle.std.specs.Prelude.{ℕ, Bool, true, ◌==◌, ◌&&◌, nat_lt, List, [], map, Option, Some, None, bytes_eq, slice_index_or, if◌then◌else◌, String}
use Rattle.std.specs.Map.{lookup}
use Rattle.std.specs.BTreeMap.{BTreeMap}
use Rattle.std.specs.String.{string_bytes}
use Rattle.std.specs.declared.alloc.Global.{Global}
use Rattle.rule_table.specs.Peaks.{PeakMap, greater}

abbrev pub HeldPeaks : Type 0
HeldPeaks = List (List (List ℕ × ℕ))

-- the peak of a vehicle of a feed
abbrev pub peak_of : HeldPeaks → PeakMap
peak_of held feed vehicle = lookup (bytes_eq vehicle) (slice_index_or held feed [])

-- peaks with one timestamp more
abbrev pub raised : PeakMap → ℕ → List ℕ → ℕ → PeakMap
raised peaks feed vehicle stamp f v = if feed == f && bytes_eq vehicle v then greater (Some stamp) (peaks f v) else peaks f v

-- whether a timestamp raises a peak
abbrev pub is_below : Option ℕ → ℕ → Bool
is_below None stamp = true
is_below (Some peak) stamp = nat_lt peak stamp

-- ---- as maps hold them
abbrev pub ids_seen : BTreeMap (String Global) ℕ → List (List ℕ × ℕ)
ids_seen m = map (λ e. (string_bytes e.0, e.1)) m.entries

abbrev pub seen : List (BTreeMap (String Global) ℕ) → HeldPeaks
seen maps = map ids_seen maps
