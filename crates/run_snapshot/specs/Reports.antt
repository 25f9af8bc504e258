-- What the report on one snapshot is, by its bytes.
use Rattle.std.specs.Prelude.{ℕ, List, [], ◌∷◌, ◌++◌, length, Option, Result, Ok, Err}
use Rattle.std.specs.List.{flat_map}
use Rattle.feed_values.specs.Snapshot.{entities_of}
use Rattle.feed_codec.specs.declared.refusal.Refusal.{Refusal}
use Rattle.timetable.specs.Timetables.{Tables}
use Rattle.rule_history.specs.Findings.{findings}
use Rattle.rule_table.specs.Found.{Found}
use Rattle.rule_history.specs.History.{Snapshot}
use Rattle.snapshot_lines.specs.Lines.{line_of, accepted}
use Rattle.rt_report.specs.FindingLines.{finding_text, has_error}
use Rattle.run_base.specs.Report.{Report, found, refused_report}

-- the line of the first snapshot of a run, whose entities are all new
abbrev pub accepted_text : ℕ → ℕ → List ℕ
accepted_text moment entities = line_of (accepted (record {
  feed = 0;
  row = 0;
  snapshot = 0;
  moment = moment;
  entities = entities;
  tested = entities;
  paired = entities;
  bounded = entities;
  peaked = entities;
}))

-- an accepted snapshot with so many entities is a line, and then its findings
abbrev pub listed_report : ℕ → ℕ → List Found → Report
listed_report moment entities findings = record { text = accepted_text moment entities ++ flat_map finding_text findings; errors = []; status = found (has_error findings) }

-- the bytes of a snapshot of feed 0, taken at a moment
abbrev pub first_taken : ℕ → List ℕ → Snapshot
first_taken moment bytes = record { feed = 0; moment = moment; bytes = bytes }

-- all findings with a timetable after the history of this one snapshot
unfoldable pub snapshot_findings : Option Tables → ℕ → List ℕ → List Found
snapshot_findings t moment bytes = findings t (first_taken moment bytes ∷ [])

-- what `check` of one file makes of an accepted snapshot
abbrev pub accepted_report : Option Tables → ℕ → List ℕ → Report
accepted_report t moment bytes = listed_report moment (length (entities_of bytes)) (snapshot_findings t moment bytes)

-- of the bytes of a snapshot that was accepted, by what is made of it, or why it was refused
abbrev pub found_report : (List ℕ → Report) → Result (List ℕ) Refusal → Report
found_report accepts (Ok bytes) = accepts bytes
found_report accepts (Err refusal) = refused_report refusal
