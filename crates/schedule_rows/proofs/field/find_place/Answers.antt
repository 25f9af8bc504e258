use Rattle.std.proofs.Common.{◌≡◌, ◌<◌, length, ◌∙◌, sym, ap, arith, Some, true, false}
use Rattle.std.specs.Str.{bytes_eq}
use Rattle.csv.specs.Records.{fields_of}
use Rattle.schedule_rows.specs.Fields.{field_in}
use Rattle.schedule_rows.proofs.PlaceLemmas.{at_place, past_place}
use Rattle.schedule_rows.proofs.field.find_place.Goals as goal

pub returns-then-eq : goal.returns-then-eq
returns-then-eq c =
    let same : bytes_eq c.args.name.now (field_in (Some c.loop-at.at) (fields_of c.args.header.now)) ≡ true = sym (ap (bytes_eq c.args.name.now) c.field_in.ensures) ∙ sym c.eq.ensures ∙ c.if-eq.true in
    let within : c.loop-at.at < length (fields_of c.args.header.now) = omega arith in
    sym (at_place _ _ _ within same) ∙ c.loop-at.invariant

pub loop-at-preserved : goal.loop-at-preserved
loop-at-preserved c =
    let other : bytes_eq c.args.name.now (field_in (Some c.loop-at.at) (fields_of c.args.header.now)) ≡ false = sym (ap (bytes_eq c.args.name.now) c.field_in.ensures) ∙ sym c.eq.ensures ∙ c.if-eq.false in
    let within : c.loop-at.at < length (fields_of c.args.header.now) = omega arith in
    past_place _ _ _ within other ∙ c.loop-at.invariant
