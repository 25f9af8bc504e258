use Rattle.std.proofs.Common.{◌≤◌, ◌+◌, length}
use Rattle.run_verify.specs.Lines.{lines_in}
use Rattle.run_verify.proofs.SentLemmas.{Left}
use Rattle.run_verify.proofs.sending.send_verdicts.Given as goal

-- what was sent and counted and what is left are all; each line has a byte
abbrev pub invariant-loop-rest : goal.invariant-loop-rest
invariant-loop-rest g l = record {
  left : Left (g.S.Sink.state l.fn.out).written l.fn.text.items (lines_in l.lines) (g.S.Sink.state l.out).written l.text.items l.number l.counts (lines_in l.rest);
  number : l.number + length l.rest ≤ length l.lines + 1;
  later : (g.S.Sink.state l.fn.out).faults ≤ (g.S.Sink.state l.out).faults;
}

abbrev pub decreases-loop-rest : goal.decreases-loop-rest
decreases-loop-rest g l = length l.rest
