use Rattle.std.proofs.Common.{◌≡◌, ◌<◌, ◌∙◌, ◌++◌, ◌∷◌, [], refl, true, length, arith, rules}
use Rattle.feed_values.specs.Snapshot.{entity_payloads}
use Rattle.entity_index.proofs.Finding.{places_end, places_more}
use Rattle.entity_index.proofs.comparing.all_places.Goals as goal

pub loop-place-preserved : goal.loop-place-preserved
loop-place-preserved c =
    let i = c.loop-place.invariant in
    let ps = entity_payloads c.args.kept.now in
    let l : c.loop-place.place < length ps = omega (arith, i.small, c.loop-place-test.true) in
    let put : c.push.new.self ≡ c.loop-place.places ++ c.loop-place.place ∷ [] = search rules in
    record {
      places = λ f. places_more f ps c.loop-place.place l [] true c.loop-place.places c.push.new.self refl put ∙ i.places f;
      small = i.small;
    }

pub returns : goal.returns
returns c = λ f.
    let i = c.loop-place.invariant in
    places_end f (entity_payloads c.args.kept.now) c.loop-place.place [] c.loop-place.places (omega (arith, i.small, c.loop-place-test.false)) (i.places f)
