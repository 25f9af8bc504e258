use Rattle.std.proofs.Common.{◌<◌, All, IfSome, length, sym, subst}
use Rattle.propagation.specs.Matching.{AreOrdered}
use Rattle.propagation.specs.Stops.{stops_in}
use Rattle.propagation.proofs.MatchLemmas.{all-within, are-ordered}
use Rattle.propagation.proofs.matching.Matching.new.Goals as goal

pub matchers-requires-clause-ordered : goal.matchers-requires-clause-ordered
matchers-requires-clause-ordered c =
    subst AreOrdered (sym c.as_slice.ensures.value) (are-ordered (stops_in c.args.stops.now) c.args.updates.now c.in_ok-places.places.items c.in_ok-places.ensures)

pub matchers-requires-clause-within : goal.matchers-requires-clause-within
matchers-requires-clause-within c =
    subst (λ n. All (λ m. IfSome m (λ place. place < n)) c.as_slice.result.now) (sym c.len.ensures)
    (subst (All (λ m. IfSome m (λ place. place < length (stops_in c.args.stops.now)))) (sym c.as_slice.ensures.value)
    (all-within (stops_in c.args.stops.now) c.args.updates.now c.in_ok-places.places.items c.in_ok-places.ensures))
