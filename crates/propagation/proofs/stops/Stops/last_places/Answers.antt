use Rattle.std.proofs.Common.{arith, ⊎_elim}
use Rattle.std.proofs.lemmas.Bool.{cases_lt}
use Rattle.std.proofs.lemmas.Map.Text.{hash_map_updates_str}
use Rattle.std.proofs.lemmas.Option.{slice_get_within}
use Rattle.propagation.specs.Stops.{stop_in, stops_in}
use Rattle.propagation.proofs.StopLemmas.{own_id, reached-next}
use Rattle.propagation.proofs.stops.Stops.last_places.Goals as goal

pub loop-place-preserved : goal.loop-place-preserved
loop-place-preserved c = λ place stop lt at.
    let id = c.visit.result.stop.now in
    let put = hash_map_updates_str id c.loop-place.last c.insert.new.self _ c.in_ok-insert.ensures.updates stop.stop in
    reached-next place c.loop-place.place id stop.stop _ _ put (omega (arith, lt)) (λ other.
    ⊎_elim (λ before. c.loop-place.invariant place stop before at)
    (λ after. absurd (own_id (stops_in c.args.self.now) c.loop-place.place place (stop_in c.visit.result) stop (omega (arith, lt, after)) c.visit.ensures at other))
    (cases_lt place c.loop-place.place))

pub returns : goal.returns
returns c = λ place stop at.
    let within = slice_get_within (stops_in c.args.self.now) place stop at in
    c.loop-place.invariant place stop (omega (arith, within, c.loop-place-test.false, c.len-place-end.ensures)) at
