-- Laws of verdicts.
use Rattle.std.specs.Prelude.{◌≡◌, ℕ, List, Option}
use Rattle.std.specs.Str.{IsUtf8}
use Rattle.serde_json.specs.Written.{compact_text}
use Rattle.rule_table.specs.Broken.{Breaks}
use Rattle.rule_table.specs.Found.{Found}
use Rattle.rule_table.specs.ClearSlots.{IsAmong}
use Rattle.rule_history.specs.Answered.{answer}
use Rattle.rule_history.specs.Findings.{findings}
use Rattle.rule_history.specs.History.{IsHistory, Snapshot}
use Rattle.rule_evidence.specs.Laws.{AllHold}
use Rattle.timetable.specs.Timetables.{Tables}
use Rattle.rt_report.specs.declared.finding.LineKind.{LineKind}
use Rattle.rt_report.specs.Findings.{finding_data}
use Rattle.report_verify.specs.declared.verdict.Verdict.{Verdict}
use Rattle.report_verify.specs.declared.verdict.Verdict.TheVariants as verdict
use Rattle.report_verify.specs.Verdicts.{IsVerdict, IsWithin, Spells, verdict_of}

-- a text spells at most one finding
abbrev pub SpelledOnce : Type 0
SpelledOnce = (text : List ℕ) (f g : Found) (s t : ℕ) → Spells text f s → Spells text g t → (f ≡ g) × (s ≡ t)

-- each text has the verdict that is computed
abbrev pub VerdictIs : Type 0
VerdictIs = (text : List ℕ) → IsVerdict text (verdict_of text)

-- and no other
abbrev pub VerdictIsOne : Type 0
VerdictIsOne = (text : List ℕ) (v : Verdict) → IsVerdict text v → v ≡ verdict_of text

-- the text of a finding, its numbers within bounds, is confirmed as it
abbrev pub PrintedIsConfirmed : Type 0
PrintedIsConfirmed = (kind : LineKind) (f : Found) (since : ℕ) → IsWithin f since → Breaks f.rule f.place f.facts → IsUtf8 (compact_text (finding_data kind f since))
    → verdict_of (compact_text (finding_data kind f since)) ≡ verdict.Confirmed f since

-- What is confirmed is found wherever its facts hold: with every timetable, after every history.
abbrev pub ConfirmedShows : Type 0
ConfirmedShows = (text : List ℕ) (f : Found) (since : ℕ) (t : Option Tables) (h : List Snapshot) → verdict_of text ≡ verdict.Confirmed f since → IsHistory h → AllHold (answer t h f.place) f.facts
    → IsAmong f (findings t h)
