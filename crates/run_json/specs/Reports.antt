-- What `show` and `encode` are to write and to answer. (This profile.)
use Rattle.std.specs.Prelude.{ℕ, List, [], ◌∷◌, ◌++◌, Result, Ok, Err}
use Rattle.std.specs.FinMap.{get}
use Rattle.rt_outside.specs.Store.{Contents}
use Rattle.feed_values.specs.Schema.{Value}
use Rattle.feed_values.specs.Messages.{feed_message}
use Rattle.feed_values.specs.Snapshot.{snapshot_value}
use Rattle.feed_values.specs.Canonical.{canonical}
use Rattle.feed_codec.specs.declared.refusal.Refusal.{Refusal}
use Rattle.serde_json.specs.Written.{compact_text}
use Rattle.feed_json.specs.Form.{form}
use Rattle.run_base.specs.declared.status.Status.TheVariants as answer
use Rattle.run_base.specs.Report.{Report, refused_input, refused_report}
use Rattle.run_json.specs.declared.json_input_fault.JsonInputFault.{JsonInputFault}
use Rattle.run_json.specs.JsonInputs.{input_message, input_text}

-- ---- `show`
-- what `show` makes of one: its form is a line
abbrev pub shown_report : List ℕ → Report
shown_report bytes = record { text = compact_text (form feed_message (snapshot_value bytes)) ++ 10 ∷ []; errors = []; status = answer.Clean }

-- what `show` makes of an accepted snapshot's bytes, or of why it was refused
abbrev pub kept_report : Result (List ℕ) Refusal → Report
kept_report (Ok bytes) = shown_report bytes
kept_report (Err refusal) = refused_report refusal

-- ---- `encode`
-- the report of `encode`: the canonical bytes of the snapshot that its file says, or why the file is refused
abbrev pub written_report : List ℕ → Result (Value feed_message) JsonInputFault → Report
written_report file (Ok v) = record { text = canonical feed_message v; errors = []; status = answer.Clean }
written_report file (Err fault) = refused_input (input_text file fault)

abbrev pub encode_report : List ℕ → Contents → Report
encode_report file contents = written_report file (input_message (get contents file))
