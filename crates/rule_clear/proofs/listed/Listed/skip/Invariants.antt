use Rattle.std.proofs.Common.{◌≡◌, ◌+◌}
use Rattle.rule_clear.proofs.listed.Listed.skip.Given as goal

-- each rule so far has ticked
abbrev pub invariant-loop : goal.invariant-loop
invariant-loop g l = l.steps ≡ l.fn.steps + l.index
