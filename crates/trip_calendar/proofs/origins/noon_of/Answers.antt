use Rattle.std.proofs.Common.{w32, w64, FitsSigned, arith}
use Rattle.std.proofs.lemmas.Int.{to_z-of_z}
use Rattle.jiff.proofs.SpanFacts.{signed_arith}
use Rattle.trip_calendar.proofs.OriginLemmas.{HasOrigin, has_origin}
use Rattle.trip_calendar.proofs.origins.noon_of.Goals as goal

pub unwrap-date-requires : goal.unwrap-date-requires
unwrap-date-requires c =
    let within : HasOrigin c.args.day.number = has_origin c.args.day.number c.requires in
    let narrow : FitsSigned w32 c.args.day.number = omega (arith, signed_arith, within.0, within.1) in
    let wide : FitsSigned w64 c.args.day.number = omega (arith, signed_arith, within.0, within.1) in
    c.from_unix_epoch_day.ensures.succeeds.1
    (rw (to_z-of_z w32 c.args.day.number narrow, to_z-of_z w64 c.args.day.number wide)
    (omega (arith, signed_arith, within.0, within.1), omega (arith, signed_arith, within.0, within.1)))
