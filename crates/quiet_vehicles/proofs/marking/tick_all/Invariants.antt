use Rattle.std.proofs.Common.{◌≡◌, ◌+◌, ◌≤◌}
use Rattle.quiet_vehicles.proofs.marking.tick_all.Given as goal

-- each rule so far has ticked
abbrev pub invariant-loop : goal.invariant-loop
invariant-loop g l =
    record {
      ticked : l.tests ≡ l.fn.tests + l.counter;
      within : l.counter ≤ 46;
    }
