use Rattle.std.proofs.Common.{◌≤◌, ◌++◌, drop}
use Rattle.std.specs.List.{flat_map}
use Rattle.follow_engine.specs.Deltas.{all_closed}
use Rattle.rt_report.specs.FindingLines.{closed_text}
use Rattle.run_base.specs.Sending.{SendsText}
use Rattle.run_rows.proofs.sending.send_closed.Given as goal

-- what was sent, what is held back and the lines of what is left are all
abbrev pub invariant-loop-close : goal.invariant-loop-close
invariant-loop-close g l =
    record {
      sent : SendsText (g.S.Sink.state l.fn.out).written (g.S.Sink.state l.out).written (l.fn.text.items ++ flat_map closed_text (all_closed l.closed))
          (l.text.items ++ flat_map closed_text (all_closed (drop l.close-index l.closed)));
      later : (g.S.Sink.state l.fn.out).faults ≤ (g.S.Sink.state l.out).faults;
    }
