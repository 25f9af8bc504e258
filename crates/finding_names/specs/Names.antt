-- Rules and kinds by their printed names. (This profile.)
use Rattle.std.specs.Prelude.{ℕ, List, bytes_eq, codes, Option, Some, None, find, if◌then◌else◌}
use Rattle.rule_table.specs.declared.kind.Kind.{Kind}
use Rattle.rule_table.specs.declared.kind.Kind.TheVariants as kind
use Rattle.rule_table.specs.declared.rule.RuleId.{RuleId}
use Rattle.rule_table.specs.Rules.{rule_name}
use Rattle.rule_table.specs.Table.{all_rules}

-- the rule of a text
abbrev pub rule_named : List ℕ → Option RuleId
rule_named text = find (λ rule. bytes_eq (rule_name rule) text) all_rules

-- the kind of a name
abbrev pub kind_named : List ℕ → Option Kind
kind_named text = if bytes_eq text (codes "trip_update") then Some kind.TripUpdate else (if bytes_eq text (codes "vehicle") then Some kind.Vehicle else None)
