-- What the lines of a report come to. (This profile.)
use Rattle.std.specs.Prelude.{ℕ, ◌+◌, ◌==◌, ◌&&◌, Bool, true, false, not, List, [], ◌∷◌, length, Option, Some, None, if◌then◌else◌}
use Rattle.std.specs.List.{cons_option, count_by, filter_map, list_any}
use Rattle.rule_table.specs.Rules.{rule_number}
use Rattle.rule_table.specs.declared.rule.RuleId.{RuleId}
use Rattle.rule_tally.specs.Tallies.{Told, told}
use Rattle.rule_tally.specs.declared.first_line.Behind.{Behind}
use Rattle.report_lines.specs.Lines.{line_said}
use Rattle.report_lines.specs.declared.line.RefusedLine.{RefusedLine}
use Rattle.report_lines.specs.declared.line.RefusedTimetable.{RefusedTimetable}
use Rattle.report_lines.specs.declared.line.ReportLine.{ReportLine}
use Rattle.report_lines.specs.declared.line.ReportLine.TheVariants as line
use Rattle.report_counts.specs.Shown.{shown}
use Rattle.report_counts.specs.Tallies.{Lines, tallies_of}
use Rattle.report_counts.specs.declared.counts.Counts.{Counts}

abbrev pub Ignored : Type 0
Ignored = List RuleId

abbrev pub is_ignored : Ignored → RuleId → Bool
is_ignored ignored rule = list_any (λ other. rule_number other == rule_number rule) ignored

-- ---- what lines stand behind
-- an accepted snapshot, which is judged at this moment, where its line tells it
abbrev pub behind_snapshot : Option ℕ → Behind
behind_snapshot moment = record { moment = moment; timetable = None }

-- and the timetable of this row, which came since
abbrev pub behind_timetable : Behind → ℕ → Behind
behind_timetable behind row = record behind { timetable = Some row }

abbrev pub next_behind : Behind → ReportLine → Behind
next_behind behind (line.Accepted moment) = behind_snapshot moment
next_behind behind (line.Exchanged row) = behind_timetable behind row
next_behind behind _ = behind

-- a line, and what it stands behind
pub record Placed : Type 0 where
  pub behind : Behind
  pub text : List ℕ

abbrev pub placed : Behind → List ℕ → Placed
placed behind text = record { behind = behind; text = text }

-- ---- kinds of lines
abbrev pub is_accepted : ReportLine → Bool
is_accepted (line.Accepted moment) = true
is_accepted _ = false

abbrev pub refusal : ReportLine → Option RefusedLine
refusal (line.Refused r) = Some r
refusal _ = None

abbrev pub is_refused : ReportLine → Bool
is_refused (line.Refused r) = true
is_refused _ = false

abbrev pub is_exchanged : ReportLine → Bool
is_exchanged (line.Exchanged row) = true
is_exchanged _ = false

abbrev pub timetable_refusal : ReportLine → Option RefusedTimetable
timetable_refusal (line.RefusedTimetable r) = Some r
timetable_refusal _ = None

abbrev pub is_refused_timetable : ReportLine → Bool
is_refused_timetable (line.RefusedTimetable r) = true
is_refused_timetable _ = false

abbrev pub is_trial : ReportLine → Bool
is_trial line.Trial = true
is_trial _ = false

abbrev pub is_foreign : ReportLine → Bool
is_foreign line.Foreign = true
is_foreign _ = false

-- it tells of an ignored rule
abbrev pub is_passed : Ignored → ReportLine → Bool
is_passed ignored (line.Told rule telling) = is_ignored ignored rule
is_passed ignored _ = false

-- it tells of this rule, which isn't ignored
abbrev pub tells_of : Ignored → RuleId → Placed → ReportLine → Option Told
tells_of ignored rule at (line.Told other telling) = if not (is_ignored ignored other) && (rule_number rule == rule_number other) then Some (told telling at.behind at.text) else None
tells_of ignored rule at _ = None

-- ---- all lines, each of which says what `said` tells
module _ (said : List ℕ → ReportLine) where
  abbrev pub how_many : (ReportLine → Bool) → List (List ℕ) → ℕ
  how_many test lines = count_by (λ text. test (said text)) lines

  abbrev pub number_if : Bool → ℕ → Option ℕ
  number_if passes n = if passes then Some n else None

  -- the numbers of the lines that pass, of which the first has this number
  abbrev pub numbers_from : ℕ → (ReportLine → Bool) → List (List ℕ) → List ℕ
  numbers_from n test [] = []
  numbers_from n test (text ∷ lines) = cons_option (number_if (test (said text)) n) (numbers_from (n + 1) test lines)

  -- what stands behind all lines, of which the first stands behind this
  abbrev pub last_behind : Behind → List (List ℕ) → Behind
  last_behind behind [] = behind
  last_behind behind (text ∷ lines) = last_behind (next_behind behind (said text)) lines

  abbrev pub placed_lines : Behind → List (List ℕ) → List Placed
  placed_lines behind [] = []
  placed_lines behind (text ∷ lines) = placed behind text ∷ placed_lines (next_behind behind (said text)) lines

  abbrev pub told_in : Ignored → List Placed → Lines
  told_in ignored lines rule = filter_map (λ (at : Placed). tells_of ignored rule at (said at.text)) lines

  -- what tells of each rule; before the first snapshot no moment is known
  abbrev pub told_of : Ignored → List (List ℕ) → Lines
  told_of ignored lines = told_in ignored (placed_lines (behind_snapshot None) lines)

  abbrev pub counts_by : Ignored → List (List ℕ) → Counts
  counts_by ignored lines = record {
    lines = length lines;
    accepted = how_many is_accepted lines;
    behind = last_behind (behind_snapshot None) lines;
    refused = how_many is_refused lines;
    refusals = shown (filter_map (λ text. refusal (said text)) lines);
    exchanged = how_many is_exchanged lines;
    refused_timetables = how_many is_refused_timetable lines;
    timetable_refusals = shown (filter_map (λ text. timetable_refusal (said text)) lines);
    trials = how_many is_trial lines;
    foreign = how_many is_foreign lines;
    strangers = shown (numbers_from 1 is_foreign lines);
    ignored = how_many (is_passed ignored) lines;
    rules = tallies_of (told_of ignored lines);
  }

-- what the lines of a report come to, where those of some rules are ignored
abbrev pub counts_of : Ignored → List (List ℕ) → Counts
counts_of ignored lines = counts_by line_said ignored lines
