-- The zone that a command line names, or why it is refused, and how that is told.
-- (POSIX, "Environment Variables", TZ; RFC 8536. The limit and the texts are this profile's.)
use Rattle.std.specs.Prelude.{◌≡◌, ◌≢◌, ℕ, ◌≤◌, ◌<◌, ◌⊎◌, List, [], length, codes, Option, Some, None}
use Rattle.std.specs.FinMap.{get}
use Rattle.jiff.specs.Words.{read_whole}
use Rattle.rt_outside.specs.Store.{Contents}
use Rattle.trip_calendar.specs.Zones.{IsFileZone, IsRefusedTable, IsRuleZone}
use Rattle.trip_calendar.specs.declared.zone.Zone.{Zone}
use Rattle.trip_calendar.specs.declared.zone_fault.ZoneFault.{ZoneFault}
use Rattle.trip_calendar.specs.declared.zone_fault.ZoneFault.TheVariants as made
use Rattle.run_base.specs.declared.input_fault.InputFault.{InputFault}
use Rattle.run_base.specs.Faults.{bad_zone_text, refused_text}
use Rattle.run_base.specs.Inputs.{TellsInput}
use Rattle.run_predict.specs.declared.zone_input_fault.ZoneInputFault.{ZoneInputFault}
use Rattle.run_predict.specs.declared.zone_input_fault.ZoneInputFault.TheVariants.{MissingFile, TooLarge, BadZone, ReadFault, Memory}
use Rattle.run_words.specs.declared.zone_word.ZoneWord.{ZoneWord}
use Rattle.run_words.specs.declared.zone_word.ZoneWord.TheVariants.{Rule, File}

-- the most bytes that a zone file has
abbrev pub zone_limit : ℕ
zone_limit = 1048576

-- the zone of a file, which holds these bytes or isn't held: the table that they read as
abbrev pub IsZoneIn : Option (List ℕ) → Zone → Type 0
IsZoneIn None zone = ⊥
IsZoneIn (Some bytes) zone = (length bytes ≤ zone_limit) × IsFileZone bytes zone

-- the zone that is named: the rule that the text reads as, or the zone of the file
abbrev pub IsZoneOf : ZoneWord → Contents → Zone → Type 0
IsZoneOf (Rule text) contents zone = IsRuleZone text zone
IsZoneOf (File name) contents zone = IsZoneIn (get contents name) zone

-- what is wrong with a zone file
abbrev pub IsFaultIn : Option (List ℕ) → ZoneInputFault → Type 0
IsFaultIn None fault = fault ≡ MissingFile
IsFaultIn (Some bytes) fault =
    ((zone_limit < length bytes) × (fault ≡ TooLarge)) ⊎ ((length bytes ≤ zone_limit) × IsRefusedTable bytes × (fault ≡ BadZone))

-- why the zone that is named is refused: the text reads as no rule, or something is wrong with the file
abbrev pub IsZoneFault : ZoneWord → Contents → ZoneInputFault → Type 0
IsZoneFault (Rule text) contents fault = (read_whole text ≡ None) × (fault ≡ BadZone)
IsZoneFault (File name) contents fault = IsFaultIn (get contents name) fault

-- a fault of a rule's text or of a file's bytes, as one of the input
abbrev pub input_fault : ZoneFault → ZoneInputFault
input_fault made.BadZone = BadZone
input_fault made.Memory = Memory

-- a file that is read for the zone
abbrev pub IsZoneFile : ZoneWord → List ℕ → Type 0
IsZoneFile (Rule text) name = ⊥
IsZoneFile (File file) name = file ≡ name

-- the name of that file, where there is one
abbrev pub file_named : ZoneWord → List ℕ
file_named (Rule text) = []
file_named (File file) = file

-- the text of a fault; a failed read and want of memory have texts of their own
abbrev pub zone_text : ZoneWord → ZoneInputFault → List ℕ
zone_text word MissingFile = refused_text (file_named word) (codes "missing file")
zone_text word TooLarge = refused_text (file_named word) (codes "too large")
zone_text word BadZone = bad_zone_text
zone_text word ReadFault = []
zone_text word Memory = []

-- what is told of a zone's fault: that the read of its file failed, or why it is refused
abbrev pub TellsZoneFault : ZoneWord → ZoneInputFault → InputFault → Type 0
TellsZoneFault word fault why = TellsInput (λ file. (fault ≡ ReadFault) × (file ≡ file_named word)) (λ text. (fault ≢ ReadFault) × (fault ≢ Memory) × (text ≡ zone_text word fault)) why
