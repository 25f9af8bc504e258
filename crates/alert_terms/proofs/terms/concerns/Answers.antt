use Rattle.std.proofs.Common.{◌∙◌}
use Rattle.feed_values.specs.Views.{entity_selector_value}
use Rattle.alert_terms.specs.InForce.{selector_of, selects}
use Rattle.alert_terms.proofs.Ranges.{any_same}
use Rattle.alert_terms.proofs.terms.concerns.Goals as goal

pub returns : goal.returns
returns c = c.selects_any.ensures ∙ any_same entity_selector_value selector_of (selects c.args.query.now) c.args.selectors.now
