use Rattle.std.proofs.Common.{◌≡◌, ◌&&◌, not, true, false, refl, sym, ◌∙◌}
use Rattle.feed_values.specs.Meaning.{fields}
use Rattle.feed_codec.proofs.MissingOrder.{first_lacking}
use Rattle.feed_codec.proofs.missing.missing_in_entity.Goals as goal

pub returns-then-not-held : goal.returns-then-not-held
returns-then-not-held c = sym (first_lacking c.at-held.result (fields c.args.bytes.now) c.at-held.ensures ∙ rw c.if-not-held.true refl)

pub returns-then-lacks : goal.returns-then-lacks
returns-then-lacks c =
    let trip : (c.at-held.result.update && not c.at-held.result.trip) ≡ true = sym c.lacks.ensures ∙ c.if-lacks.true in
    sym (first_lacking c.at-held.result (fields c.args.bytes.now) c.at-held.ensures ∙ rw (c.if-not-held.false, trip) refl)

pub returns-then-lacks-2 : goal.returns-then-lacks-2
returns-then-lacks-2 c =
    let trip : (c.at-held.result.update && not c.at-held.result.trip) ≡ false = sym c.lacks.ensures ∙ c.if-lacks.false in
    let latitude : (c.at-held.result.position.given && not c.at-held.result.position.latitude) ≡ true = sym c.lacks-2.ensures ∙ c.if-lacks-2.true in
    sym (first_lacking c.at-held.result (fields c.args.bytes.now) c.at-held.ensures ∙ rw (c.if-not-held.false, trip, latitude) refl)

pub returns-then-lacks-3 : goal.returns-then-lacks-3
returns-then-lacks-3 c =
    let trip : (c.at-held.result.update && not c.at-held.result.trip) ≡ false = sym c.lacks.ensures ∙ c.if-lacks.false in
    let latitude : (c.at-held.result.position.given && not c.at-held.result.position.latitude) ≡ false = sym c.lacks-2.ensures ∙ c.if-lacks-2.false in
    let longitude : (c.at-held.result.position.given && not c.at-held.result.position.longitude) ≡ true = sym c.lacks-3.ensures ∙ c.if-lacks-3.true in
    sym (first_lacking c.at-held.result (fields c.args.bytes.now) c.at-held.ensures ∙ rw (c.if-not-held.false, trip, latitude, longitude) refl)

pub returns-then-held : goal.returns-then-held
returns-then-held c =
    let trip : (c.at-held.result.update && not c.at-held.result.trip) ≡ false = sym c.lacks.ensures ∙ c.if-lacks.false in
    let latitude : (c.at-held.result.position.given && not c.at-held.result.position.latitude) ≡ false = sym c.lacks-2.ensures ∙ c.if-lacks-2.false in
    let longitude : (c.at-held.result.position.given && not c.at-held.result.position.longitude) ≡ false = sym c.lacks-3.ensures ∙ c.if-lacks-3.false in
    sym (first_lacking c.at-held.result (fields c.args.bytes.now) c.at-held.ensures ∙ rw (c.if-not-held.false, trip, latitude, longitude, c.if-held.true) refl)

pub returns : goal.returns
returns c =
    let trip : (c.at-held.result.update && not c.at-held.result.trip) ≡ false = sym c.lacks.ensures ∙ c.if-lacks.false in
    let latitude : (c.at-held.result.position.given && not c.at-held.result.position.latitude) ≡ false = sym c.lacks-2.ensures ∙ c.if-lacks-2.false in
    let longitude : (c.at-held.result.position.given && not c.at-held.result.position.longitude) ≡ false = sym c.lacks-3.ensures ∙ c.if-lacks-3.false in
    sym (first_lacking c.at-held.result (fields c.args.bytes.now) c.at-held.ensures ∙ rw (c.if-not-held.false, trip, latitude, longitude, c.if-held.false) refl)
