-- The values of lines have no float.
use Rattle.std.proofs.Common.{◌≡◌, refl, false}
use Rattle.serde_json.specs.Written.{has_float}
use Rattle.rule_table.specs.declared.place.Place.{Place}
use Rattle.rule_table.specs.declared.place.Place.TheVariants as place
use Rattle.rule_table.specs.declared.rule.RuleId.{RuleId}
use Rattle.rt_report.specs.Findings.{closed_data}

pub closed_has_none : (rule : RuleId) (at : Place) → has_float (closed_data rule at) ≡ false
closed_has_none rule (place.Head feed slot) = refl
closed_has_none rule (place.Entity key path) = refl
