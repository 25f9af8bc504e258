use Rattle.std.proofs.Common.{◌≡◌, pos, ap, ◌∙◌, w32, w64, to_z, FitsSigned, arith}
use Rattle.std.proofs.Math.Facts.{to_z_pos}
use Rattle.std.proofs.lemmas.Int.{to_z-of_z}
use Rattle.jiff.proofs.SpanFacts.{signed_arith}
use Rattle.jiff.specs.Words.{epoch_day}
use Rattle.trip_calendar.proofs.OriginLemmas.{clock_day}
use Rattle.trip_calendar.proofs.origins.local_day.Goals as goal

pub returns-clause-value : goal.returns-clause-value
returns-clause-value c =
    let instant = rw c.unwrap-instant.ensures at c.from_second.ensures.value in
    let plain : to_z w64 c.args.moment ≡ pos c.args.moment = to_z_pos w64 (omega arith) in
    let clock = rw (instant, c.time_zone.ensures.offsets, plain) at c.to_datetime.ensures in
    let day = c.to_unix_epoch_day.ensures.value ∙ ap epoch_day (c.to_plain.ensures ∙ c.date-date.ensures) in
    let fits : FitsSigned w32 c.to_unix_epoch_day.result = omega (arith, signed_arith, c.to_unix_epoch_day.ensures.bound) in
    rw (to_z-of_z w32 c.to_unix_epoch_day.result fits, day) (clock_day c.to_datetime.result c.args.moment _ clock)
