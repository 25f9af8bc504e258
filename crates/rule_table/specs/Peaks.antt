-- Peaks: the greatest timestamp that each vehicle of a feed gave in the snapshots before the feed's last one.
-- (GTFS Realtime Reference 2.0, "VehiclePosition" and "VehicleDescriptor"; peaks are this profile's.)
use Rattle.std.specs.Prelude.{◌≡◌, ℕ, ℤ, pos, negsuc, nat_le, List, [], ◌∷◌, Option, Some, None, option_and_then, if◌then◌else◌}
use Rattle.feed_values.specs.Schema.{Value}
use Rattle.feed_values.specs.Messages.{entity, vehicle_position}
use Rattle.rule_table.specs.declared.key.EntityKey.{EntityKey}
use Rattle.rule_table.specs.Pairs.{vehicle_of, vehicle_id_in, is_id}

-- of each feed and vehicle id a number of seconds from 1970, or none
abbrev pub PeakMap : Type 0
PeakMap = ℕ → List ℕ → Option ℕ

abbrev pub no_peaks : PeakMap
no_peaks feed vehicle = None

-- ---- what an entity's vehicle position gives
abbrev pub vehicle_in : Value vehicle_position → Option (List ℕ)
vehicle_in position = vehicle_id_in position.1.1.1.1.1.1.1.0

abbrev pub vehicle_id_of : Value entity → Option (List ℕ)
vehicle_id_of e = option_and_then vehicle_in (vehicle_of e)

-- a timestamp has no sign
abbrev pub whole : Option ℤ → Option ℕ
whole None = None
whole (Some (pos n)) = Some n
whole (Some (negsuc n)) = None

abbrev pub stamp_in : Value vehicle_position → Option ℕ
stamp_in position = whole position.1.1.1.1.0

abbrev pub stamp_of : Value entity → Option ℕ
stamp_of e = option_and_then stamp_in (vehicle_of e)

abbrev pub one_stamp : Option ℕ → List ℕ
one_stamp None = []
one_stamp (Some n) = n ∷ []

-- the timestamp, where the entity gives the vehicle and a timestamp
abbrev pub stamps_of : List ℕ → Value entity → List ℕ
stamps_of vehicle e = if is_id vehicle (vehicle_id_of e) then one_stamp (stamp_of e) else []

-- ---- the greater of two numbers, and the greatest of a list, where there is one
abbrev pub greater : Option ℕ → Option ℕ → Option ℕ
greater None b = b
greater (Some a) None = Some a
greater (Some a) (Some b) = Some (if nat_le a b then b else a)

abbrev pub greatest : List ℕ → Option ℕ
greatest [] = None
greatest (n ∷ ns) = greater (Some n) (greatest ns)

-- ---- peaks that are equal for the vehicle of an entity, in its feed
abbrev pub SamePeak : PeakMap → PeakMap → EntityKey → Value entity → Type 0
SamePeak u v k e = (vehicle : List ℕ) → vehicle_id_of e ≡ Some vehicle → u k.feed vehicle ≡ v k.feed vehicle
