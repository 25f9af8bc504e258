use Rattle.std.proofs.Common.{rules, arith, ◌≡◌, ◌≤◌, ◌∙◌, ap, false, bytes_eq, length, option_map, unwrap_or}
use Rattle.propagation.specs.Stops.{stops_in}
use Rattle.propagation.proofs.StopLemmas.{none_more, none_passes}
use Rattle.propagation.proofs.stops.Stops.scan.Goals as goal

pub loop-place-preserved : goal.loop-place-preserved
loop-place-preserved c =
    let stops = stops_in c.args.self.now in
    let other : bytes_eq c.args.id.now c.visit.result.stop.now ≡ false = search rules in
    none_more (λ stop. bytes_eq c.args.id.now stop.stop) stops c.args.from c.loop-place.place c.loop-place.invariant
    (ap (λ stop. unwrap_or (option_map (λ s. bytes_eq c.args.id.now s.stop) stop) false) c.visit.ensures ∙ other)

pub returns : goal.returns
returns c =
    let stops = stops_in c.args.self.now in
    let end : length stops ≤ c.loop-place.place = omega (arith, c.len-place-end.ensures, c.loop-place-test.false) in
    none_passes (λ stop. bytes_eq c.args.id.now stop.stop) stops c.args.from c.loop-place.place c.loop-place.invariant end
