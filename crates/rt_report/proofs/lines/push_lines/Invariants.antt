use Rattle.std.proofs.Common.{◌≡◌, ◌++◌, drop}
use Rattle.std.specs.List.{flat_map}
use Rattle.rt_report.specs.FindingLines.{finding_text}
use Rattle.rt_report.proofs.lines.push_lines.Given as goal

abbrev pub invariant-loop-finding : goal.invariant-loop-finding
invariant-loop-finding l = l.text.items ++ flat_map finding_text (drop l.finding-index l.findings) ≡ l.fn.text.items ++ flat_map finding_text l.findings
