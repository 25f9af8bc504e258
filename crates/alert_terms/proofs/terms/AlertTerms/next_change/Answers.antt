use Rattle.std.proofs.Common.{◌∙◌, ap, arith, nat_lt}
use Rattle.std.specs.List.{filter, flat_map}
use Rattle.std.proofs.lemmas.List.{take_all}
use Rattle.alert_terms.specs.InForce.{bounds_in, bounds_of, earliest}
use Rattle.alert_terms.proofs.Least.{next_more}
use Rattle.alert_terms.proofs.Ranges.{bounds_same, range_bounds}
use Rattle.alert_terms.proofs.terms.AlertTerms.next_change.Goals as goal

-- one period more
pub loop-range-preserved : goal.loop-range-preserved
loop-range-preserved c =
    next_more range_bounds c.args.before c.args.moment c.as_slice-range-items.result.now c.loop-range.range-index c.range-item.result c.loop-range.next c.next_change-next.result c.loop-range-test.true c.loop-range.invariant
    (c.next_change-next.ensures ∙ ap (λ p. earliest c.loop-range.next (filter (nat_lt c.args.moment) (bounds_of p))) c.of.ensures
    ∙ ap (λ range. earliest c.loop-range.next (filter (nat_lt c.args.moment) (range_bounds range))) c.range-item.is)

pub returns : goal.returns
returns c =
    c.loop-range.invariant
    ∙ ap (λ ranges. earliest c.args.before (filter (nat_lt c.args.moment) (flat_map range_bounds ranges)))
    (take_all c.loop-range.range-index c.as_slice-range-items.result.now (omega (arith, c.loop-range-test.false)) ∙ c.as_slice-range-items.ensures)
    ∙ ap (λ bounds. earliest c.args.before (filter (nat_lt c.args.moment) bounds)) (bounds_same c.self.inside.alert.now.active_period)
    ∙ ap (λ terms. earliest c.args.before (filter (nat_lt c.args.moment) (bounds_in terms))) c.self.view_is
