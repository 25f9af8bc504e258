use Rattle.std.proofs.Common.{◌≡◌, ◌+◌, ◌≤◌}
use Rattle.judging.proofs.marking.tick_others.Given as goal

-- each number so far has ticked
abbrev pub invariant-loop : goal.invariant-loop
invariant-loop g l =
    record {
      ticked : l.tests + l.judged ≡ l.fn.tests + l.counter;
      last : l.end ≡ 46;
      within : l.counter ≤ 46;
    }
