use Rattle.std.proofs.Common.{ap, subst, sym, ◌∙◌}
use Rattle.std.proofs.lemmas.Result.{IfOk-weaker}
use Rattle.timetable.specs.Lookups.{tables_in}
use Rattle.trip_calendar.specs.Zones.{zone_of}
use Rattle.propagation.specs.Predictions.{IsPrediction, IsTiming, scheduled, stated}
use Rattle.propagation.specs.Rows.{stated_from}
use Rattle.propagation.proofs.resolver.Resolver.predict.Goals as goal

pub returns-in-Some : goal.returns-in-Some
returns-in-Some c =
    let of = subst (IsTiming c.args.self.now.table.now (zone_of c.args.self.now.zone.now) c.args.update.now.trip c.args.moment) c.in-Some.is c.in_ok-timing.ensures in
    IfOk-weaker c.scheduled.result _ (IsPrediction (tables_in c.args.self.now.table.now) (zone_of c.args.self.now.zone.now) c.args.update.now c.args.moment)
    (λ p over. scheduled of.id c.in-Some.timing.day.number c.in-Some.timing.zero over.matches of.is_timed over.are_matches over.holds)
    (c.scheduled.ensures of.id of.has_id)

pub returns-in_ok-rows-in-None : goal.returns-in_ok-rows-in-None
returns-in_ok-rows-in-None c =
    let untimed = subst (IsTiming c.args.self.now.table.now (zone_of c.args.self.now.zone.now) c.args.update.now.trip c.args.moment) c.in-None.is c.in_ok-timing.ensures in
    let rows = c.in_ok-rows-in-None.ensures in
    let holds = c.new-in-None-2.ensures in
    stated (sym c.is_canceled.ensures ∙ c.if-is_canceled.false) untimed (record {
      has_day = holds.has_day;
      has_setters = holds.has_setters ∙ c.new-in-None.ensures.items;
      has_rows = holds.has_rows ∙ rows ∙ ap (stated_from 0) c.as_slice.ensures;
    })
