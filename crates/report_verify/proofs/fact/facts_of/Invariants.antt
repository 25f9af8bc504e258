use Rattle.std.proofs.Common.{◌≡◌, drop}
use Rattle.serde_json.specs.View.{items_view}
use Rattle.report_verify.specs.Said.{all_of, fact_of}
use Rattle.report_verify.proofs.TreeLemmas.{all_with}
use Rattle.report_verify.proofs.fact.facts_of.Given as goal

-- what was read and what is left are what all values are
abbrev pub invariant-loop-value : goal.invariant-loop-value
invariant-loop-value l = all_with l.facts.items (all_of fact_of (items_view (drop l.value-index l.values))) ≡ all_of fact_of (items_view l.values)
