-- The rules on the timestamps of entities, those on what a vehicle told before, and those on headers.
use Rattle.std.specs.Prelude.{◌&&◌, filter, List}
use Rattle.rule_table.specs.declared.bound_rule.Bound.{Bound}
use Rattle.rule_table.specs.declared.bound_rule.Bound.TheVariants.{Header, Moment}
use Rattle.rule_table.specs.declared.rule.RuleId.{RuleId}
use Rattle.rule_table.specs.Asks.{asks, is_bounds, is_peaks, has_places, has_head_places}
use Rattle.rule_table.specs.Table.{all_rules}
use Rattle.rule_table.specs.declared.rule.RuleId.TheVariants.{E012}

-- those that bound the timestamps of an entity, in the order of their texts
abbrev pub bound_rules : List RuleId
bound_rules = filter (λ r. has_places r && asks is_bounds r) all_rules

-- what each doesn't let a timestamp pass: the header's timestamp, or the moment by more than 60 seconds
abbrev pub bound_of : RuleId → Bound
bound_of E012 = Header
bound_of _ = Moment

-- those that ask for a peak, in the order of their texts
abbrev pub peak_rules : List RuleId
peak_rules = filter (λ r. has_places r && asks is_peaks r) all_rules

-- those with places on a header, in the order of their texts
abbrev pub head_rules : List RuleId
head_rules = filter has_head_places all_rules
