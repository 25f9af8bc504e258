-- What a line of a report says. (This profile; docs/report.md has the lines.)
use Rattle.std.specs.Prelude.{ℕ, ◌++◌, List, length, codes, decimal, nat_lt, Option, Some, None, is_none, option_map, option_and_then, if◌then◌else◌}
use Rattle.std.specs.Str.{is_utf8}
use Rattle.serde_json.specs.Data.{Data}
use Rattle.serde_json.specs.Find.{as_number, as_str, as_u64, get}
use Rattle.serde_json.specs.Read.{read}
use Rattle.rule_table.specs.declared.rule.RuleId.{RuleId}
use Rattle.rule_tally.specs.declared.telling.Telling.{Telling}
use Rattle.rule_tally.specs.declared.telling.Telling.TheVariants as telling
use Rattle.report_lines.specs.declared.line.ReportLine.{ReportLine}
use Rattle.report_lines.specs.declared.line.ReportLine.TheVariants as line
use Rattle.report_lines.specs.declared.line_name.LineName.{LineName}
use Rattle.report_lines.specs.declared.line_name.LineName.TheVariants as name
use Rattle.report_lines.specs.Names.{line_named, rule_named}

-- ---- members
abbrev pub text_at : List ℕ → Data → Option (List ℕ)
text_at key d = option_and_then as_str (get key d)

-- a whole number of 64 bits, not below 0
abbrev pub count_at : List ℕ → Data → Option ℕ
count_at key d = option_and_then as_u64 (option_and_then as_number (get key d))

-- ---- places
-- each entity has a name of its own: an id may hold anything, so it stands last
abbrev pub entity_name : ℕ → ℕ → List ℕ → List ℕ
entity_name feed occurrence id = decimal feed ++ codes " " ++ decimal occurrence ++ codes " " ++ id

abbrev pub entity_at : ℕ → Data → Option (List ℕ)
entity_at feed d = option_and_then (λ id. option_map (λ occurrence. entity_name feed occurrence id) (count_at (codes "occurrence") d)) (text_at (codes "id") d)

-- none on a header, which has no id
abbrev pub judged_at : ℕ → Data → Option (Option (List ℕ))
judged_at feed d = if is_none (get (codes "id") d) then Some None else option_map Some (entity_at feed d)

-- and so has each place: the entity's name, whose length stands first, and the path
abbrev pub header_place : ℕ → List ℕ → List ℕ
header_place feed path = codes "header " ++ decimal feed ++ codes " " ++ path

abbrev pub entity_place : List ℕ → List ℕ → List ℕ
entity_place entity path = decimal (length entity) ++ codes " " ++ entity ++ path

abbrev pub place_name : ℕ → Option (List ℕ) → List ℕ → List ℕ
place_name feed None path = header_place feed path
place_name feed (Some entity) path = entity_place entity path

-- ---- what a line tells of its rule
-- how: by its kind
abbrev pub told_at : LineName → ℕ → List ℕ → Option (List ℕ) → Option Telling
told_at name.Finding feed path entity = Some (telling.Finding entity)
told_at name.Opened feed path entity = Some (telling.Opened entity (place_name feed entity path))
told_at name.Closed feed path entity = Some (telling.Closed (place_name feed entity path))
told_at name.Accepted feed path entity = None
told_at name.Refused feed path entity = None
told_at name.Timetable feed path entity = None
told_at name.RefusedTimetable feed path entity = None
told_at name.Trial feed path entity = None

abbrev pub telling_of : LineName → Data → Option Telling
telling_of n d = option_and_then (λ feed. option_and_then (λ path. option_and_then (told_at n feed path) (judged_at feed d)) (text_at (codes "path") d)) (count_at (codes "feed") d)

abbrev pub rule_at : Data → Option RuleId
rule_at d = option_and_then rule_named (text_at (codes "rule") d)

abbrev pub rule_line : LineName → Data → Option ReportLine
rule_line n d = option_and_then (λ rule. option_map (line.Told rule) (telling_of n d)) (rule_at d)

-- ---- lines of snapshots
abbrev pub refused_at : ℕ → ℕ → List ℕ → ReportLine
refused_at row at reason = line.Refused (record { row = row; at = at; reason = reason })

abbrev pub refused_line : Data → Option ReportLine
refused_line d = option_and_then (λ row. option_and_then (λ at. option_map (refused_at row at) (text_at (codes "reason") d)) (count_at (codes "at") d)) (count_at (codes "row") d)

-- the moment at which it is judged is told where it is a whole number
abbrev pub accepted_line : Data → ReportLine
accepted_line d = line.Accepted (count_at (codes "moment") d)

-- ---- lines of timetables
-- one that is exchanged has its row
abbrev pub exchanged_line : Data → Option ReportLine
exchanged_line d = option_map line.Exchanged (count_at (codes "row") d)

-- and one that is refused also tells why
abbrev pub refused_table : ℕ → List ℕ → ReportLine
refused_table row text = line.RefusedTimetable (record { row = row; text = text })

abbrev pub refused_timetable_line : Data → Option ReportLine
refused_timetable_line d = option_and_then (λ row. option_map (refused_table row) (text_at (codes "text") d)) (count_at (codes "row") d)

-- ---- a line
abbrev pub named_line : Data → LineName → Option ReportLine
named_line d name.Accepted = Some (accepted_line d)
named_line d name.Refused = refused_line d
named_line d name.Timetable = exchanged_line d
named_line d name.RefusedTimetable = refused_timetable_line d
named_line d name.Finding = rule_line name.Finding d
named_line d name.Opened = rule_line name.Opened d
named_line d name.Closed = rule_line name.Closed d
named_line d name.Trial = Some line.Trial

-- a line that has its kind's members
abbrev pub line_in : Data → Option ReportLine
line_in d = option_and_then (named_line d) (option_and_then line_named (text_at (codes "line") d))

-- the tree of a text that is UTF-8 and JSON
abbrev pub tree_of : List ℕ → Option Data
tree_of text = if is_utf8 text then read text else None

abbrev pub or_foreign : Option ReportLine → ReportLine
or_foreign None = line.Foreign
or_foreign (Some l) = l

-- the most bytes that a line of a report has here
abbrev pub line_limit : ℕ
line_limit = 1048576

-- what a text is as a line of a report: of none, where it is longer, or no JSON, or lacks what its kind has
abbrev pub line_said : List ℕ → ReportLine
line_said text = if nat_lt line_limit (length text) then line.Foreign else or_foreign (option_and_then line_in (tree_of text))
