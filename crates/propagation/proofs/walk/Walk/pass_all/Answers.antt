use Rattle.std.proofs.Common.{ap, ◌∙◌}
use Rattle.propagation.specs.Events.{arrival_at, departure_at, own_of}
use Rattle.propagation.specs.Stops.{stop_in, stops_in}
use Rattle.propagation.proofs.WalkLemmas.{passed_as, walked-more}
use Rattle.propagation.proofs.walk.Walk.pass_all.Goals as goal

pub loop-place-preserved : goal.loop-place-preserved
loop-place-preserved c =
    let updates = c.args.updates.now in
    let matches = c.args.matching.now.places.items in
    let stop = stop_in c.visit-stop.result in
    let place = c.loop-place.place in
    let walk = c.loop-place.self in
    let next = c.pass_stop.new.self in
    let own_is = c.own_of-own.ensures ∙ ap (own_of updates) c.matcher.ensures in
    let arrival_is = c.arrival_at-arrival.ensures.event ∙ ap (arrival_at _ place stop) own_is in
    let departure_is = c.departure_at-departure.ensures.event ∙ ap (departure_at _ place stop) own_is in
    let passed = passed_as walk.setters.items walk.rows.items next.setters.items next.rows.items _ _ _ _ arrival_is departure_is c.in_ok-pass_stop.ensures.passed in
    walked-more _ updates matches (stops_in c.args.stops.now) c.args.self.now.setters.items c.args.self.now.rows.items place stop walk.setters.items next.setters.items walk.rows.items next.rows.items
    c.visit-stop.ensures c.loop-place.invariant passed c.in_ok-pass_stop.ensures.small
