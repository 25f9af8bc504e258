use Rattle.std.proofs.Common.{◌∙◌}
use Rattle.feed_values.specs.Views.{time_range_value}
use Rattle.alert_terms.specs.InForce.{is_open, period_of}
use Rattle.alert_terms.proofs.Ranges.{any_same, some_active}
use Rattle.alert_terms.proofs.terms.is_active.Goals as goal

-- there is a period
pub returns-in_default : goal.returns-in_default
returns-in_default c =
    c.is_any_open.ensures ∙ any_same time_range_value period_of (is_open c.args.moment) c.args.ranges.now ∙ some_active c.args.moment c.args.ranges.now c.in_default.len_at_least
