use Rattle.std.proofs.Common.{◌≡◌, ◌++◌, drop}
use Rattle.rule_table.proofs.fact.copied_facts.Given as goal

-- the copies so far and the facts that are left are all facts
abbrev pub invariant-loop-fact : goal.invariant-loop-fact
invariant-loop-fact l = l.copies.items ++ drop l.fact-index l.facts ≡ l.facts
