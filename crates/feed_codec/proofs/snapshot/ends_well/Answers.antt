use Rattle.std.proofs.Common.{◌≡◌, Bool, false, nat_eq, length, refl, sym, ◌∙◌}
use Rattle.std.proofs.lemmas.Bool.{not-true}
use Rattle.feed_values.specs.Accepted.{is_one}
use Rattle.feed_values.specs.Views.{natural}
use Rattle.feed_codec.proofs.Ends.{ends_well}
use Rattle.feed_codec.proofs.snapshot.ends_well.Goals as goal

pub returns-in-Some : goal.returns-in-Some
returns-in-Some c = λ other.
    let full : is_one (natural c.args.message.now.header.incrementality) ≡ false = rw c.in-Some.is (not-true (nat_eq c.in-Some.given 1) other) in
    ends_well c.args.bytes.now (length c.args.bytes.now) c.args.message.now c.requires.fine c.requires.value
    (sym c.has_payload.ensures ∙ c.if-not-has_payload.false) (sym c.has_inner_payload.ensures ∙ c.if-not-has_inner_payload.false) full

pub returns-in-None : goal.returns-in-None
returns-in-None c = λ _.
    let full : is_one (natural c.args.message.now.header.incrementality) ≡ false = rw c.in-None.is refl in
    ends_well c.args.bytes.now (length c.args.bytes.now) c.args.message.now c.requires.fine c.requires.value
    (sym c.has_payload.ensures ∙ c.if-not-has_payload.false) (sym c.has_inner_payload.ensures ∙ c.if-not-has_inner_payload.false) full
