use Rattle.std.proofs.Common.{◌≡◌, take, nat_lt}
use Rattle.std.specs.List.{filter, flat_map}
use Rattle.alert_terms.specs.InForce.{earliest}
use Rattle.alert_terms.proofs.Ranges.{range_bounds}
use Rattle.alert_terms.proofs.terms.AlertTerms.next_change.Given as goal

-- the least of what was found before and of what the periods so far have after the moment
abbrev pub invariant-loop-range : goal.invariant-loop-range
invariant-loop-range l = l.next ≡ earliest l.fn.before (filter (nat_lt l.moment) (flat_map range_bounds (take l.range-index l.range-items)))
