-- What `verify` is to write and to answer. (This profile.)
use Rattle.std.specs.Prelude.{◌≡◌, ℕ, ◌++◌, List, [], length, codes, nat_lt, if◌then◌else◌, Option, Some, None}
use Rattle.std.specs.FinMap.{get}
use Rattle.rt_outside.specs.Store.{Contents}
use Rattle.rt_outside.specs.declared.read_end.ReadEnd.{ReadEnd}
use Rattle.rt_outside.specs.declared.read_end.ReadEnd.TheVariants as end
use Rattle.snapshot_lines.specs.Lines.{line_of}
use Rattle.run_base.specs.declared.input_fault.InputFault.{InputFault}
use Rattle.run_base.specs.Faults.{refused_text}
use Rattle.run_base.specs.Inputs.{TellsInput}
use Rattle.run_base.specs.Report.{Report, found, refused_input}
use Rattle.run_verify.specs.Lines.{counts_of, is_bad, lines_in, sum, verdicts_text}

-- the most bytes that a report has
abbrev pub report_limit : ℕ
report_limit = 268435456

-- the verdicts on some lines, numbered from 1, and then their sum; found where one is denied or malformed
abbrev pub lines_report : List (List ℕ) → Report
lines_report lines = record { text = verdicts_text 1 lines ++ line_of (sum (counts_of lines)); errors = []; status = found (is_bad (counts_of lines)) }

-- those on the lines of a report
abbrev pub judged_report : List ℕ → Report
judged_report report = lines_report (lines_in report)

abbrev pub missing_text : List ℕ → List ℕ
missing_text file = refused_text file (codes "missing file")

abbrev pub large_text : List ℕ → List ℕ
large_text file = refused_text file (codes "too large")

-- the report in a file, which holds these bytes or isn't held
abbrev pub held_report : List ℕ → Option (List ℕ) → Report
held_report file None = refused_input (missing_text file)
held_report file (Some bytes) = if nat_lt report_limit (length bytes) then refused_input (large_text file) else judged_report bytes

abbrev pub verify_report : List ℕ → Contents → Report
verify_report file contents = held_report file (get contents file)

-- ---- why a file isn't had
abbrev pub FailsRead : ReadEnd → List ℕ → List ℕ → Type 0
FailsRead why file name = (why ≡ end.ReadFault) × (name ≡ file)

abbrev pub IsRefused : ReadEnd → List ℕ → List ℕ → Type 0
IsRefused end.Absent file text = text ≡ missing_text file
IsRefused end.TooLarge file text = text ≡ large_text file
IsRefused end.ReadFault file text = ⊥
IsRefused end.Memory file text = ⊥

-- what is told of it: that its read failed, or why it is refused
abbrev pub TellsEnd : List ℕ → ReadEnd → InputFault → Type 0
TellsEnd file why fault = TellsInput (FailsRead why file) (IsRefused why file) fault
