use Rattle.std.proofs.Common.{◌≡◌, ◌≤◌, ◌++◌, drop, length}
use Rattle.rule_history.specs.Standing.{closed}
use Rattle.engine_laws.specs.Order.{found_cmp, Rises}
use Rattle.engine_laws.specs.Standings.{findings_of}
use Rattle.standing_walks.specs.Changes.{all_closed}
use Rattle.standing_walks.proofs.walking.put_closed.Given as goal

abbrev pub invariant-loop-standing : goal.invariant-loop-standing
invariant-loop-standing l =
    record {
      closed_is : all_closed l.out ++ closed (findings_of (drop l.standing-index l.before)) (findings_of (drop l.at l.now)) ≡ all_closed l.fn.out ++ closed (findings_of l.before) (findings_of l.now);
      before_rises : Rises found_cmp (findings_of (drop l.standing-index l.before));
      now_rises : Rises found_cmp (findings_of (drop l.at l.now));
      within : l.at ≤ length l.now;
    }
