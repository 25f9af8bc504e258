use Rattle.std.proofs.Common.{◌≤◌}
use Rattle.report_input.proofs.FileLemmas.{HasCome}
use Rattle.report_input.proofs.reading.count_opened.Given as goal

-- the bytes so far came, and the rest is left
abbrev pub invariant-loop : goal.invariant-loop
invariant-loop g l = record {
  come : HasCome l.fn.ignored (g.F.Files.state l.fn.files).told (g.F.Files.state l.files).told l.reader;
  later : (g.F.Files.state l.fn.files).faults ≤ (g.F.Files.state l.files).faults;
}
