use Rattle.std.proofs.Common.{w32, w64, FitsSigned, arith, negsuc, pos}
use Rattle.std.proofs.lemmas.Int.{to_z-of_z}
use Rattle.jiff.proofs.SpanFacts.{signed_arith}
use Rattle.jiff_core.specs.Calendar.{IsBetween}
use Rattle.rt_day.proofs.DateLemmas.{first_day, last_day}
use Rattle.prediction_table.proofs.date_text.date_of_day.Goals as goal

pub unwrap-requires : goal.unwrap-requires
unwrap-requires c =
    let within : IsBetween (negsuc 354_284) (pos 2_860_213) c.args.day.number = (rw (← first_day) c.requires.0, rw (← last_day) c.requires.1) in
    let narrow : FitsSigned w32 c.args.day.number = omega (arith, signed_arith, within.0, within.1) in
    let wide : FitsSigned w64 c.args.day.number = omega (arith, signed_arith, within.0, within.1) in
    c.from_unix_epoch_day.ensures.succeeds.1
    (rw (to_z-of_z w32 c.args.day.number narrow, to_z-of_z w64 c.args.day.number wide)
    (omega (arith, signed_arith, within.0, within.1), omega (arith, signed_arith, within.0, within.1)))
