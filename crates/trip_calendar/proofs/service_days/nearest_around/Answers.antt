use Rattle.std.proofs.Common.{pos, ap, sym, ◌∙◌, subst, option_map}
use Rattle.timetable.specs.Lookups.{tables_in}
use Rattle.trip_calendar.specs.ServiceDays.{IsCandidate, nearer}
use Rattle.trip_calendar.specs.Zones.{zone_of}
use Rattle.trip_calendar.proofs.service_days.nearest_around.Goals as goal

pub returns-in-Some : goal.returns-in-Some
returns-in-Some c = λ id is. record {
  date = c.args.date.number;
  before = c.in_ok-before.before;
  same = c.in_ok-same.same;
  after = c.in_ok-after.after;
  is_date = c.requires.date;
  is_before = subst (λ day. IsCandidate (tables_in c.args.table.now) (zone_of c.args.zone.now) id (pos c.args.time) c.args.moment day c.in_ok-before.before) c.day_before.ensures (c.in_ok-before.ensures id is);
  is_same = c.in_ok-same.ensures id is;
  is_after = subst (λ day. IsCandidate (tables_in c.args.table.now) (zone_of c.args.zone.now) id (pos c.args.time) c.args.moment day c.in_ok-after.after) c.day_after.ensures (c.in_ok-after.ensures id is);
  nearest = ap (option_map (λ candidate. candidate.day.number)) (sym c.in-Some.is ∙ c.nearer-2.ensures ∙ ap (λ o. nearer o c.in_ok-after.after) c.nearer.ensures);
}

pub returns-in-None : goal.returns-in-None
returns-in-None c = λ id is. record {
  date = c.args.date.number;
  before = c.in_ok-before.before;
  same = c.in_ok-same.same;
  after = c.in_ok-after.after;
  is_date = c.requires.date;
  is_before = subst (λ day. IsCandidate (tables_in c.args.table.now) (zone_of c.args.zone.now) id (pos c.args.time) c.args.moment day c.in_ok-before.before) c.day_before.ensures (c.in_ok-before.ensures id is);
  is_same = c.in_ok-same.ensures id is;
  is_after = subst (λ day. IsCandidate (tables_in c.args.table.now) (zone_of c.args.zone.now) id (pos c.args.time) c.args.moment day c.in_ok-after.after) c.day_after.ensures (c.in_ok-after.ensures id is);
  nearest = ap (option_map (λ candidate. candidate.day.number)) (sym c.in-None.is ∙ c.nearer-2.ensures ∙ ap (λ o. nearer o c.in_ok-after.after) c.nearer.ensures);
}
