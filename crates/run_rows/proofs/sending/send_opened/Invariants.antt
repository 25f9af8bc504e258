use Rattle.std.proofs.Common.{◌≤◌, ◌++◌, drop}
use Rattle.std.specs.List.{flat_map}
use Rattle.follow_engine.specs.Deltas.{all_opened}
use Rattle.rt_report.specs.declared.finding.LineKind.TheVariants as line
use Rattle.rt_report.specs.FindingLines.{standing_text}
use Rattle.run_base.specs.Sending.{SendsText}
use Rattle.run_rows.proofs.sending.send_opened.Given as goal

-- what was sent, what is held back and the lines of what is left are all
abbrev pub invariant-loop-open : goal.invariant-loop-open
invariant-loop-open g l =
    record {
      sent : SendsText (g.S.Sink.state l.fn.out).written (g.S.Sink.state l.out).written (l.fn.text.items ++ flat_map (standing_text line.Opened) (all_opened l.opened))
          (l.text.items ++ flat_map (standing_text line.Opened) (all_opened (drop l.open-index l.opened)));
      later : (g.S.Sink.state l.fn.out).faults ≤ (g.S.Sink.state l.out).faults;
    }
