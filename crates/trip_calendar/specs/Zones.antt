-- Zones, noon of a day and the local date, in the words of `jiff`.
-- (POSIX, "Environment Variables", TZ; RFC 8536; GTFS Schedule Reference, "Field Types", Time.)
use Rattle.std.specs.Prelude.{◌≡◌, ℕ, ℤ, pos, ◌+ℤ◌, ◌*ℤ◌, ◌≤ℤ◌, ◌<ℤ◌, List, Ok, Err, ◌⊎◌}
use Rattle.jiff.specs.Words.{ambiguous_at, compatible_offset, epoch_day, instant_of, nanos_of_seconds, offset_at, plain_zone, time_nanos}
use Rattle.jiff.specs.Placed.{IsPosixZone}
use Rattle.jiff_core.specs.declared.civil.datetime.DateTime.{DateTime}
use Rattle.jiff_core.specs.declared.error.TzifFault.{TzifFault}
use Rattle.jiff_tz.specs.Tzif.{HasBadRule, RuleAgrees, tzif_view}
use Rattle.jiff_tz.specs.TzifReader.{read_tzif}
use Rattle.jiff_tz.specs.declared.timezone.TimeZone.{TimeZone as PlainZone}
use Rattle.jiff_tz.specs.declared.timezone.TimeZone.TheVariants as plain
use Rattle.trip_calendar.specs.declared.zone.Held.{Held}
use Rattle.trip_calendar.specs.declared.zone.Held.TheVariants.{Rule, Table}
use Rattle.trip_calendar.specs.declared.zone.Zone.{Zone}

-- the zone that a `Zone` holds
abbrev pub held_zone : Held → PlainZone
held_zone (Rule rule) = plain_zone rule
held_zone (Table table) = plain.Tzif (record { ref_ptr = (0, 0); now = table })

abbrev pub zone_of : Zone → PlainZone
zone_of zone = held_zone zone.held

-- the zone is the rule that the text reads as
abbrev pub IsRuleZone : List ℕ → Zone → Type 0
IsRuleZone text zone = IsPosixZone text (zone_of zone)

-- the zone is the table that the bytes read as
abbrev pub IsTable : List ℕ → Held → Type 0
IsTable bytes (Rule rule) = ⊥
IsTable bytes (Table table) = (read_tzif bytes ≡ Ok (tzif_view table)) × RuleAgrees table

abbrev pub IsFileZone : List ℕ → Zone → Type 0
IsFileZone bytes zone = IsTable bytes zone.held

-- `jiff` refuses the bytes, and not for want of memory
abbrev pub IsRefusedTable : List ℕ → Type 0
IsRefusedTable bytes = ((fault : TzifFault) × (read_tzif bytes ≡ Err fault)) ⊎ HasBadRule (read_tzif bytes)

-- noon of a day, which is a number of days from 1970-01-01
abbrev pub IsNoon : ℤ → DateTime → Type 0
IsNoon day dt = (epoch_day dt.date ≡ day) × (time_nanos dt.time ≡ 43_200_000_000_000)

-- the origin of a day in a zone, in seconds: noon by the compatible choice, less half a day
abbrev pub IsOrigin : PlainZone → ℤ → ℤ → Type 0
IsOrigin zone day origin = (noon : DateTime) × IsNoon day noon
    × (nanos_of_seconds (origin +ℤ pos 43_200) ≡ instant_of noon (compatible_offset (ambiguous_at zone noon)))

-- the day that the clocks of a zone show at a moment
abbrev pub IsLocalDay : PlainZone → ℕ → ℤ → Type 0
IsLocalDay zone moment day =
    let clock = pos moment +ℤ offset_at zone (nanos_of_seconds (pos moment)) in
    ((day *ℤ pos 86_400) ≤ℤ clock) × (clock <ℤ ((day +ℤ pos 1) *ℤ pos 86_400))
