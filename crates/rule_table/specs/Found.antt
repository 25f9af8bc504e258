-- What a finding says.
use Rattle.std.specs.Prelude.{List}
use Rattle.rule_table.specs.declared.rule.RuleId.{RuleId}
use Rattle.rule_table.specs.declared.place.Place.{Place}
use Rattle.rule_table.specs.declared.fact.Fact.{Fact}

-- a rule, a place and the facts that it cites there
pub record Found : Type 0 where
  pub rule : RuleId
  pub place : Place
  pub facts : List Fact
