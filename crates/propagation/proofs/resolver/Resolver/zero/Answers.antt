use Rattle.std.proofs.Common.{arith, ap, ◌∙◌, ◌+ℤ◌, option_map, FitsSigned}
use Rattle.std.specs.Int.{w64}
use Rattle.std.proofs.lemmas.Int.{to_z-of_z}
use Rattle.jiff.proofs.SpanFacts.{signed_arith}
use Rattle.trip_calendar.specs.Zones.{zone_of}
use Rattle.propagation.proofs.DayLemmas.{has_zero}
use Rattle.propagation.proofs.resolver.Resolver.zero.Goals as goal

pub returns : goal.returns
returns c =
    let origin = c.in-Some.origin in
    let is = rw c.in-Some.is at c.in_ok-origin.ensures.value in
    let bounded = rw c.in-Some.is at c.in_ok-origin.ensures.bounded in
    let fits : FitsSigned w64 origin = omega (arith, signed_arith, bounded.0, bounded.1) in
    has_zero (zone_of c.args.self.now.zone.now) c.args.day.number c.args.shift origin c.shifted.result is
    (c.shifted.ensures.value ∙ ap (λ n. option_map (λ s. n +ℤ s) c.args.shift) (to_z-of_z w64 origin fits)) c.shifted.ensures.small
