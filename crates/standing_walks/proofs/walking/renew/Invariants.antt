use Rattle.std.proofs.Common.{◌≡◌, ◌≤◌, ◌++◌, drop, length}
use Rattle.engine_laws.specs.Order.{found_cmp, Rises}
use Rattle.engine_laws.specs.Standings.{findings_of, renewed}
use Rattle.standing_walks.proofs.walking.renew.Given as goal

-- the standings so far, and what is left renewed by what is left
abbrev pub invariant-loop-finding : goal.invariant-loop-finding
invariant-loop-finding l =
    record {
      renewed_is : l.list.items ++ renewed (drop l.at l.old) l.applied l.finding-iterator.rest.items ≡ renewed l.old l.applied l.fn.found;
      old_rises : Rises found_cmp (findings_of (drop l.at l.old));
      found_rises : Rises found_cmp l.finding-iterator.rest.items;
      within : l.at ≤ length l.old;
    }
