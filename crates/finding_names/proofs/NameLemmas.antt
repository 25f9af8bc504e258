-- The texts of rules and kinds.
use Rattle.std.proofs.Common.{◌≡◌, Some, refl}
use Rattle.rule_table.specs.declared.kind.Kind.{Kind}
use Rattle.rule_table.specs.declared.kind.Kind.TheVariants as kind
use Rattle.rule_table.specs.declared.rule.RuleId.{RuleId}
use Rattle.rule_table.specs.declared.rule.RuleId.TheVariants.{E001}
use Rattle.rule_table.specs.Rules.{rule_name}
use Rattle.rt_report.specs.Findings.{kind_name}
use Rattle.finding_names.specs.Names.{kind_named, rule_named}

pub rule_read : (rule : RuleId) → rule_named (rule_name rule) ≡ Some rule
rule_read E001 = refl
rule_read _ = refl

pub kind_read : (k : Kind) → kind_named (kind_name k) ≡ Some k
kind_read kind.TripUpdate = refl
kind_read kind.Vehicle = refl
