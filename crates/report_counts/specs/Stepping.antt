-- In the code: one line more.
use Rattle.std.specs.Prelude.{◌≡◌, ℕ, ◌+◌, Bool, true, false, List}
use Rattle.rule_table.specs.declared.rule.RuleId.{RuleId}
use Rattle.rule_tally.specs.Tallies.{told}
use Rattle.rule_tally.specs.declared.telling.Telling.{Telling}
use Rattle.report_lines.specs.declared.line.RefusedLine.{RefusedLine}
use Rattle.report_lines.specs.declared.line.RefusedTimetable.{RefusedTimetable}
use Rattle.report_lines.specs.declared.line.ReportLine.{ReportLine}
use Rattle.report_lines.specs.declared.line.ReportLine.TheVariants as line
use Rattle.report_counts.specs.Counts.{Ignored, behind_snapshot, behind_timetable, is_ignored}
use Rattle.report_counts.specs.Shown.{shown_more}
use Rattle.report_counts.specs.Tallies.{Lines, one_more_of, tallies_of}
use Rattle.report_counts.specs.declared.counts.Counts.{Counts}

abbrev pub with_refused : Counts → RefusedLine → Counts
with_refused counts refusal = record counts { refused = counts.refused + 1; refusals = shown_more counts.refusals refusal }

abbrev pub with_exchange : Counts → ℕ → Counts
with_exchange counts row = record counts { exchanged = counts.exchanged + 1; behind = behind_timetable counts.behind row }

abbrev pub with_refused_timetable : Counts → RefusedTimetable → Counts
with_refused_timetable counts refusal = record counts { refused_timetables = counts.refused_timetables + 1; timetable_refusals = shown_more counts.timetable_refusals refusal }

-- the number of the line is counted already
abbrev pub with_foreign : Counts → Counts
with_foreign counts = record counts { foreign = counts.foreign + 1; strangers = shown_more counts.strangers counts.lines }

-- the tallies take a line that tells of a rule, whatever lines came before
abbrev pub HasTallied : Counts → RuleId → Telling → List ℕ → Counts → Type 0
HasTallied old rule telling text new =
    (new ≡ record old { rules = new.rules }) × ((before : Lines) → old.rules ≡ tallies_of before → new.rules ≡ tallies_of (one_more_of before rule (told telling old.behind text)))

abbrev pub IsTold : Bool → Counts → RuleId → Telling → List ℕ → Counts → Type 0
IsTold true old rule telling text new = new ≡ record old { ignored = old.ignored + 1 }
IsTold false old rule telling text new = HasTallied old rule telling text new

abbrev pub HasTold : Ignored → Counts → RuleId → Telling → List ℕ → Counts → Type 0
HasTold ignored old rule telling text new = IsTold (is_ignored ignored rule) old rule telling text new

abbrev pub HasTaken : Ignored → Counts → ReportLine → List ℕ → Counts → Type 0
HasTaken ignored old (line.Accepted moment) text new = new ≡ record old { accepted = old.accepted + 1; behind = behind_snapshot moment }
HasTaken ignored old (line.Refused refusal) text new = new ≡ with_refused old refusal
HasTaken ignored old (line.Exchanged row) text new = new ≡ with_exchange old row
HasTaken ignored old (line.RefusedTimetable refusal) text new = new ≡ with_refused_timetable old refusal
HasTaken ignored old (line.Told rule telling) text new = HasTold ignored old rule telling text new
HasTaken ignored old line.Trial text new = new ≡ record old { trials = old.trials + 1 }
HasTaken ignored old line.Foreign text new = new ≡ with_foreign old
