-- What the code holds while it sends lines; the reports of `Reports.antt` don't speak of it.
use Rattle.std.specs.Prelude.{◌≡◌, ◌++◌, ◌||◌, ℕ, List, Option}
use Rattle.std.specs.List.{flat_map}
use Rattle.std.specs.Io.KnownBytes.{append_known}
use Rattle.rt_outside.specs.Sink.{AppendsPrefix}
use Rattle.rule_table.specs.Found.{Found}
use Rattle.rt_report.specs.declared.lines.Lines.{Lines}
use Rattle.rt_report.specs.FindingLines.{finding_text, has_error}

-- Lines are held back behind what was written. Those of some findings were added to them, and a front of all of these was
-- written and is held no more.
pub record Sends (before after : Option (List ℕ)) (old new : Lines) (findings : List Found) : Type 0 where
  pub sent : List ℕ
  pub written : after ≡ append_known before sent
  pub text : sent ++ new.text.items ≡ old.text.items ++ flat_map finding_text findings
  pub error : new.error ≡ (old.error || has_error findings)

-- a prefix of the lines that are held and those of some findings was written
abbrev pub SendsPart : Option (List ℕ) → Option (List ℕ) → Lines → List Found → Type 0
SendsPart before after held findings = AppendsPrefix before after (held.text.items ++ flat_map finding_text findings)
