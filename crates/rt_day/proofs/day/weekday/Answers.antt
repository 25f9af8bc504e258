use Rattle.std.proofs.Common.{◌∙◌, ap, arith, rules, pos, w32, w64, ◌+ℤ◌, FitsSigned}
use Rattle.std.specs.Prelude.{unsigned_abs}
use Rattle.std.proofs.lemmas.Int.{to_z-of_z}
use Rattle.jiff_core.specs.Calendar.{weekday_number}
use Rattle.jiff_core.proofs.SignedLemmas.{signed_arith}
use Rattle.rt_day.proofs.day.weekday.Goals as goal

pub returns-clause-value : goal.returns-clause-value
unfolding weekday_number
returns-clause-value c =
    let remainder : FitsSigned w64 c.rem_euclid.result = omega (arith, signed_arith, c.rem_euclid.ensures.lower_bound, c.rem_euclid.ensures.upper_bound) in
    let day : FitsSigned w32 c.args.day.number = search rules in
    let wide : FitsSigned w64 c.args.day.number = omega (arith, signed_arith) in
    let later : FitsSigned w64 (c.args.day.number +ℤ pos 3) = omega (arith, signed_arith) in
    ap unsigned_abs (to_z-of_z w64 c.rem_euclid.result remainder ∙ simp to_z-of_z at c.rem_euclid.ensures.value)
