-- What a command is to write and to answer. A report is a function of what the files hold, or one of a relation: it doesn't see how
-- the bytes arrive. (This profile.)
use Rattle.std.specs.Prelude.{ℕ, Bool, List, [], if◌then◌else◌, Option, Some, None}
use Rattle.std.specs.FinMap.{get}
use Rattle.rt_outside.specs.Store.{Contents}
use Rattle.feed_codec.specs.declared.refusal.Reason.TheVariants.{NoFile}
use Rattle.feed_codec.specs.declared.refusal.Refusal.{Refusal}
use Rattle.feed_codec.specs.Refusal.{refusal}
use Rattle.feed_codec.specs.Refusal.{refused as refused_at}
use Rattle.snapshot_lines.specs.Lines.{line_of, refused}
use Rattle.run_base.specs.declared.status.Status.{Status}
use Rattle.run_base.specs.declared.status.Status.TheVariants as answer

-- the text for the output, the text for the errors, and the answer
pub record Report : Type 0 where
  pub text : List ℕ
  pub errors : List ℕ
  pub status : Status

-- a refused snapshot is a line, and something found
abbrev pub refused_report : Refusal → Report
refused_report refusal = record { text = line_of (refused 0 refusal); errors = []; status = answer.Found }

-- the report on bytes, by their first fault and by what is made of accepted ones
abbrev pub judged_report : (List ℕ → Report) → List ℕ → Option Refusal → Report
judged_report accepts bytes (Some refusal) = refused_report refusal
judged_report accepts bytes None = accepts bytes

-- the report on the snapshot of a file, which holds these bytes or isn't held
abbrev pub snapshot_report : (List ℕ → Report) → Option (List ℕ) → Report
snapshot_report accepts None = refused_report (refused_at 0 NoFile)
snapshot_report accepts (Some bytes) = judged_report accepts bytes (refusal bytes)

abbrev pub file_report : (List ℕ → Report) → List ℕ → Contents → Report
file_report accepts file contents = snapshot_report accepts (get contents file)

-- the answer that is given where errors were found, and where none
abbrev pub found : Bool → Status
found error = if error then answer.Found else answer.Clean

-- an input that is refused ends the run with its text, before any snapshot is read
abbrev pub refused_input : List ℕ → Report
refused_input text = record { text = []; errors = text; status = answer.Refused }
