use Rattle.std.proofs.Common.{◌≡◌, ◌≤◌, drop, length}
use Rattle.rule_table.specs.SameFacts.{same_facts}
use Rattle.rule_table.proofs.same.are_same_facts.Given as goal

abbrev pub invariant-loop-i : goal.invariant-loop-i
invariant-loop-i l =
    record {
      same : same_facts (drop l.i l.first) (drop l.i l.second) ≡ same_facts l.first l.second;
      within : l.i ≤ length l.second;
    }
