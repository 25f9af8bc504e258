use Rattle.std.proofs.Common.{◌≡◌, ◌≤◌, ◌++◌, drop, length}
use Rattle.rule_history.specs.Standing.{opened}
use Rattle.engine_laws.specs.Order.{found_cmp, Rises}
use Rattle.engine_laws.specs.Standings.{findings_of}
use Rattle.standing_walks.specs.Changes.{all_opened}
use Rattle.standing_walks.proofs.walking.put_opened.Given as goal

abbrev pub invariant-loop-standing : goal.invariant-loop-standing
invariant-loop-standing l =
    record {
      opened_is : all_opened l.out ++ opened (findings_of (drop l.at l.before)) (drop l.standing-index l.now) ≡ all_opened l.fn.out ++ opened (findings_of l.before) l.now;
      before_rises : Rises found_cmp (findings_of (drop l.at l.before));
      now_rises : Rises found_cmp (findings_of (drop l.standing-index l.now));
      within : l.at ≤ length l.before;
    }
