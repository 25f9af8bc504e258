use Rattle.std.proofs.Common.{◌≡◌, ◌≤◌, ◌||◌}
use Rattle.run_rows.specs.follow_engine.Engines.{engine_data}
use Rattle.rt_report.specs.FindingLines.{all_text, any_error}
use Rattle.run_check.proofs.Standings.{Waits}
use Rattle.run_check.proofs.standing.write_findings.Given as goal

-- what was written, what waits and the lines of what is left are all
abbrev pub invariant-loop-finding : goal.invariant-loop-finding
invariant-loop-finding g l =
    let list = (engine_data l.engine).list in
    record {
      waits : Waits (g.S.Sink.state l.fn.out).written (g.S.Sink.state l.out).written l.lines.text.items l.finding-iterator (all_text list);
      error_is : (l.lines.error || any_error l.finding-iterator) ≡ any_error list;
      later : (g.S.Sink.state l.fn.out).faults ≤ (g.S.Sink.state l.out).faults;
    }
