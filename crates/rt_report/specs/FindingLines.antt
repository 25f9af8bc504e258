-- What is printed of findings, and how much they weigh.
use Rattle.std.specs.Prelude.{◌≡◌, ◌++◌, ℕ, Bool, ◌||◌, List, bytes_eq, codes}
use Rattle.std.specs.List.{list_any, flat_map}
use Rattle.rule_table.specs.declared.rule.RuleId.{RuleId}
use Rattle.rule_table.specs.Rules.{level}
use Rattle.rule_table.specs.Found.{Found}
use Rattle.rule_history.specs.Standing.{Standing, Spot}
use Rattle.snapshot_lines.specs.Lines.{line_of}
use Rattle.rt_report.specs.Findings.{finding_data, closed_data}
use Rattle.rt_report.specs.declared.lines.Lines.{Lines}
use Rattle.rt_report.specs.declared.finding.LineKind.{LineKind}
use Rattle.rt_report.specs.declared.finding.LineKind.TheVariants as line

-- the line of a finding whose rule has stood at its place since a snapshot
abbrev pub standing_text : LineKind → Standing → List ℕ
standing_text kind x = line_of (finding_data kind x.finding x.since)

-- the lines of all findings
abbrev pub all_text : List Standing → List ℕ
all_text xs = flat_map (standing_text line.Finding) xs

-- the line of one that has stood since the first snapshot
abbrev pub finding_text : Found → List ℕ
finding_text f = line_of (finding_data line.Finding f 0)

-- the line of a rule that stands no more at a place
abbrev pub closed_text : Spot → List ℕ
closed_text spot = line_of (closed_data spot.rule spot.place)

-- a rule of level E or X
abbrev pub is_error : RuleId → Bool
is_error rule = bytes_eq (level rule) (codes "E") || bytes_eq (level rule) (codes "X")

-- whether a finding is of an error
abbrev pub has_error : List Found → Bool
has_error findings = list_any (λ f. is_error f.rule) findings

abbrev pub any_error : List Standing → Bool
any_error xs = list_any (λ x. is_error x.finding.rule) xs

-- lines before and after a text was appended, with errors in it or not
pub record AddsText (old new : Lines) (text : List ℕ) (error : Bool) : Type 0 where
  pub text_is : new.text.items ≡ old.text.items ++ text
  pub error_is : new.error ≡ (old.error || error)

-- lines before and after the lines of some findings were appended
pub record AddsLines (old new : Lines) (findings : List Found) : Type 0 where
  pub text : new.text.items ≡ old.text.items ++ flat_map finding_text findings
  pub error : new.error ≡ (old.error || has_error findings)
