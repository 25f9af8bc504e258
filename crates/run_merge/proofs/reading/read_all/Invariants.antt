use Rattle.std.proofs.Common.{◌≡◌, ◌≤◌, length, take, IfSome}
use Rattle.rt_outside.specs.Store.{contents_told}
use Rattle.run_merge.specs.Gathering.{IsGathered}
use Rattle.run_merge.specs.Merged.{found_in}
use Rattle.run_merge.proofs.reading.read_all.Given as goal

-- the files so far were read
abbrev pub invariant-loop-number : goal.invariant-loop-number
invariant-loop-number g l = record {
  found : IfSome (contents_told (g.F.Files.state l.fn.files).told) (λ held. IsGathered (found_in held (take l.number l.name-items)) l.gathered);
  few : length l.gathered.feeds ≤ l.number;
  contents : contents_told (g.F.Files.state l.files).told ≡ contents_told (g.F.Files.state l.fn.files).told;
  later : (g.F.Files.state l.fn.files).faults ≤ (g.F.Files.state l.files).faults;
}
