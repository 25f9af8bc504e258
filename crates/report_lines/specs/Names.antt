-- The kinds of lines, and rules, by their texts. (This profile.)
use Rattle.std.specs.Prelude.{ℕ, List, [], ◌∷◌, bytes_eq, codes, Option, find}
use Rattle.rule_table.specs.declared.rule.RuleId.{RuleId}
use Rattle.rule_table.specs.Rules.{rule_name}
use Rattle.rule_table.specs.Table.{all_rules}
use Rattle.report_lines.specs.declared.line_name.LineName.{LineName}
use Rattle.report_lines.specs.declared.line_name.LineName.TheVariants as name

abbrev pub name_text : LineName → List ℕ
name_text name.Accepted = codes "accepted"
name_text name.Refused = codes "refused"
name_text name.Timetable = codes "timetable"
name_text name.RefusedTimetable = codes "refused_timetable"
name_text name.Finding = codes "finding"
name_text name.Opened = codes "opened"
name_text name.Closed = codes "closed"
name_text name.Trial = codes "trial"

abbrev pub all_names : List LineName
all_names = name.Accepted ∷ name.Refused ∷ name.Timetable ∷ name.RefusedTimetable ∷ name.Finding ∷ name.Opened ∷ name.Closed ∷ name.Trial ∷ []

abbrev pub line_named : List ℕ → Option LineName
line_named text = find (λ n. bytes_eq (name_text n) text) all_names

abbrev pub rule_named : List ℕ → Option RuleId
rule_named text = find (λ rule. bytes_eq (rule_name rule) text) all_rules
