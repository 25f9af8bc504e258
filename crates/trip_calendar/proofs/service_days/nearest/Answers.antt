use Rattle.std.proofs.Common.{pos, inl, refl, subst, sym, option_map, IfOk, IsSome}
use Rattle.std.proofs.lemmas.Result.{IfOk-weaker}
use Rattle.timetable.specs.Lookups.{tables_in}
use Rattle.trip_calendar.specs.ServiceDays.{IsNearest}
use Rattle.trip_calendar.specs.Zones.{zone_of}
use Rattle.trip_calendar.proofs.service_days.nearest.Goals as goal

pub returns-in-Some-2 : goal.returns-in-Some-2
returns-in-Some-2 c = λ id is.
    let some : IsSome c.in_ok-date.field-0 = rw c.in-Some-2.is refl in
    subst (λ time. IfOk c.nearest_around.result (λ found.
    IsNearest (tables_in c.args.table.now) (zone_of c.args.zone.now) id c.args.moment (option_map (λ x. pos x) time) (option_map (λ day. day.number) found))) (sym c.in-Some.is)
    (IfOk-weaker c.nearest_around.result _ _ (λ found h. inl (c.in_ok-date.ensures.none.0 some, h)) (c.nearest_around.ensures id is))
