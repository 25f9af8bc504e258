use Rattle.std.proofs.Common.{◌≡◌, ◌++◌, drop}
use Rattle.rt_report.specs.Tokens.{fact_tokens}
use Rattle.rt_report.proofs.finding.push_facts.Given as goal

-- the tokens so far and those of the facts that are left are all
abbrev pub invariant-loop-fact : goal.invariant-loop-fact
invariant-loop-fact l = record {
  before_is : l.out.before ≡ l.fn.out.before;
  tokens_are : l.out.tokens ++ fact_tokens (drop l.fact-index l.facts) ≡ l.fn.out.tokens ++ fact_tokens l.facts;
}
