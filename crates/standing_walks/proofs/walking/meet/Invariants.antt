use Rattle.std.proofs.Common.{◌≡◌, drop, length}
use Rattle.standing_walks.specs.Walked.{met, after}
use Rattle.standing_walks.proofs.walking.meet.Given as goal

abbrev pub invariant-loop-i : goal.invariant-loop-i
invariant-loop-i l =
    record {
      met_is : met l.finding (drop l.i l.list) ≡ met l.finding (drop l.from l.list);
      after_is : after l.finding (drop l.i l.list) ≡ after l.finding (drop l.from l.list);
      small : l.i-end ≡ length l.list;
    }
