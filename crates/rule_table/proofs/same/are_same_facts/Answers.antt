use Rattle.rule_table.proofs.FactsEnd.{facts_end}
use Rattle.rule_table.proofs.same.are_same_facts.Goals as goal

pub returns : goal.returns
returns c = facts_end c.args.first.now c.args.second.now c.loop-i.i c.loop-i-test.false c.loop-i.auto.i-end c.loop-i.invariant.within c.loop-i.invariant.same
