use Rattle.std.proofs.Common.{pos, ◌+ℤ◌, ◌-ℤ◌, unsigned_abs, refl, ap, sym, ◌∙◌, arith, w64, FitsSigned, IsSome}
use Rattle.std.proofs.lemmas.Int.{to_z-of_z}
use Rattle.jiff.proofs.SpanFacts.{signed_arith}
use Rattle.timetable.specs.Lookups.{tables_in}
use Rattle.trip_calendar.specs.Zones.{zone_of}
use Rattle.trip_calendar.proofs.DayLemmas.{candidate_at}
use Rattle.trip_calendar.proofs.service_days.candidate.Goals as goal

pub returns-in-Some : goal.returns-in-Some
returns-in-Some c = λ id is.
    let bounds = rw c.in-Some.is at c.in_ok-origin.ensures.bounded in
    let fits : FitsSigned w64 c.in-Some.origin = omega (arith, signed_arith, bounds.0, bounds.1) in
    let some : IsSome c.in_ok-origin.field-0 = rw c.in-Some.is refl in
    candidate_at (tables_in c.args.table.now) (zone_of c.args.zone.now) id (pos c.args.time) c.args.moment c.args.day c.distance.result c.in-Some.origin
    (sym (c.runs_on.ensures id is) ∙ grind (arith, c.if-not-runs_on.false)) (c.in_ok-origin.ensures.none.0 some) (rw c.in-Some.is at c.in_ok-origin.ensures.value)
    (c.distance.ensures ∙ ap (λ o. unsigned_abs (o +ℤ pos c.args.time -ℤ pos c.args.moment)) (to_z-of_z w64 c.in-Some.origin fits))
