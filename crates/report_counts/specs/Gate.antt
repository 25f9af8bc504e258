-- Whether a report fails. (This profile; `rt_command` answers 1 where an error is found or a snapshot is refused.)
use Rattle.std.specs.Prelude.{◌==◌, ◌&&◌, ◌||◌, Bool, false, not, bytes_eq, codes, nat_lt}
use Rattle.std.specs.List.{list_any}
use Rattle.rule_table.specs.Rules.{level}
use Rattle.rule_table.specs.Table.{all_rules}
use Rattle.rule_table.specs.declared.rule.RuleId.{RuleId}
use Rattle.report_counts.specs.Tallies.{findings_at}
use Rattle.report_counts.specs.declared.counts.Counts.{Counts}
use Rattle.report_counts.specs.declared.gate.FailOn.{FailOn}
use Rattle.report_counts.specs.declared.gate.FailOn.TheVariants as on

-- no line, a refused snapshot or timetable, or a line that is no report's
abbrev pub is_empty_or_broken : Counts → Bool
is_empty_or_broken counts = (counts.lines == 0) || nat_lt 0 counts.refused || nat_lt 0 counts.refused_timetables || nat_lt 0 counts.foreign

-- all but warnings
abbrev pub is_error : RuleId → Bool
is_error rule = not (bytes_eq (level rule) (codes "W"))

abbrev pub has_findings : Counts → Bool
has_findings counts = list_any (λ rule. nat_lt 0 (findings_at counts.rules rule)) all_rules

abbrev pub has_errors : Counts → Bool
has_errors counts = list_any (λ rule. is_error rule && nat_lt 0 (findings_at counts.rules rule)) all_rules

abbrev pub fails : FailOn → Counts → Bool
fails on.Error counts = is_empty_or_broken counts || has_errors counts
fails on.Warning counts = is_empty_or_broken counts || has_findings counts
fails on.Never counts = false
