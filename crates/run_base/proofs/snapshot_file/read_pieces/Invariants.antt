use Rattle.std.proofs.Common.{◌≡◌, ◌≤◌, ◌+◌, ◌-◌}
use Rattle.rt_outside.specs.Store.{contents_told}
use Rattle.feed_values.specs.Accepted.{snapshot_limit}
use Rattle.run_base.proofs.Pieces.{ReadSoFar}
use Rattle.run_base.proofs.snapshot_file.read_pieces.Given as goal

-- what was left at first is the pieces so far and what is left now
abbrev pub invariant-loop-piece : goal.invariant-loop-piece
invariant-loop-piece g l = record {
  read : ReadSoFar (g.F.Files.state l.fn.files).told (g.F.Files.state l.files).told l.splitter;
  contents : contents_told (g.F.Files.state l.files).told ≡ contents_told (g.F.Files.state l.fn.files).told;
  asked : (g.F.Files.state l.files).asked ≡ (g.F.Files.state l.fn.files).asked;
  later : (g.F.Files.state l.fn.files).faults ≤ (g.F.Files.state l.files).faults;
}

abbrev pub decreases-loop-piece : goal.decreases-loop-piece
decreases-loop-piece g l = snapshot_limit + 1 - l.splitter.count
