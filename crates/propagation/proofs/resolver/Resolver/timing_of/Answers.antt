use Rattle.std.proofs.Common.{arith, sym, ◌∙◌, subst, option_map, FitsSigned}
use Rattle.std.specs.Int.{w128}
use Rattle.std.proofs.lemmas.Int.{to_z-of_z}
use Rattle.jiff.proofs.SpanFacts.{signed_arith}
use Rattle.timetable.specs.Lookups.{tables_in}
use Rattle.trip_calendar.specs.ServiceDays.{IsServiceDay}
use Rattle.trip_calendar.specs.Zones.{zone_of}
use Rattle.propagation.specs.Predictions.{HasZero, IsTimingOf, has_no_shift}
use Rattle.propagation.proofs.DayLemmas.{a_zero, no_zero, service_day-in_range}
use Rattle.propagation.proofs.resolver.Resolver.timing_of.Goals as goal

pub zero-requires : goal.zero-requires
zero-requires c =
    let t = tables_in c.args.self.now.table.now in
    let zone = zone_of c.args.self.now.zone.now in
    service_day-in_range t zone c.args.trip.now c.args.moment c.in-Some.day.number
    (subst (λ o. IsServiceDay t zone c.args.trip.now c.args.moment (option_map (λ day. day.number) o)) c.in-Some.is c.in_ok-day.ensures)

pub returns-in-Some-2 : goal.returns-in-Some-2
returns-in-Some-2 c = λ id is named.
    let t = tables_in c.args.self.now.table.now in
    let zone = zone_of c.args.self.now.zone.now in
    let day = c.in-Some.day.number in
    let zero_ = c.in-Some-2.zero in
    let has = subst (HasZero zone day c.shift.result) c.in-Some-2.is c.in_ok-zero-in-Some.ensures in
    let at = a_zero zone day c.shift.result zero_ has in
    let small = at.3 in
    let fits : FitsSigned w128 zero_ = omega (arith, signed_arith, small.0, small.1) in
    let is_day = subst (λ o. IsServiceDay t zone c.args.trip.now c.args.moment (option_map (λ day. day.number) o)) c.in-Some.is c.in_ok-day.ensures in
    subst (λ z. IsTimingOf c.args.self.now.table.now zone c.args.trip.now c.args.moment (record { trip = c.args.number; day = c.in-Some.day; zero = z })) (sym (to_z-of_z w128 zero_ fits))
    (record {
      id = id;
      is_trip = c.requires.number;
      has_id = is;
      is_timed = record {
        shift = at.0;
        scheduled = c.requires.scheduled;
        named = named;
        is_day = is_day;
        is_shift = sym (c.shift.ensures id is) ∙ at.1;
        is_zero = at.2;
      };
      in_range = service_day-in_range t zone c.args.trip.now c.args.moment day is_day;
      small = small;
    })

pub returns-in-None-2 : goal.returns-in-None-2
returns-in-None-2 c = λ id is named.
    let zone = zone_of c.args.self.now.zone.now in
    has_no_shift id named (sym (c.shift.ensures id is)
    ∙ no_zero zone c.in-Some.day.number c.shift.result (subst (HasZero zone c.in-Some.day.number c.shift.result) c.in-None-2.is c.in_ok-zero-in-Some.ensures))
