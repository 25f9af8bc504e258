use Rattle.std.proofs.Common.{get_or, refl, arith, sym, ◌∙◌}
use Rattle.std.proofs.lemmas.List.Folds.{list_all_more}
use Rattle.std.proofs.lemmas.Int.Digits.{digits_value_more}
use Rattle.std.specs.Char.{is_ascii_digit}
use Rattle.rt_day.proofs.DigitLemmas.{digit_is, digits_are_small}
use Rattle.rt_day.proofs.digits.digits_of.Goals as goal

pub overflow_mul-value : goal.overflow_mul-value
overflow_mul-value c =
    let value = c.loop-place.invariant.value in
    let small = digits_are_small c.args.text.now c.loop-place.place c.loop-place-test.true c.requires c.loop-place.invariant.digits in
    omega (arith, value, small)

pub overflow_add-value : goal.overflow_add-value
overflow_add-value c =
    let value = c.loop-place.invariant.value in
    let digit = digit_is (get_or c.args.text.now c.loop-place.place 0) (sym c.if-not-is_ascii_digit.ensures.value) in
    let small = digits_are_small c.args.text.now c.loop-place.place c.loop-place-test.true c.requires c.loop-place.invariant.digits in
    omega (arith, value, small, digit)

pub loop-place-preserved : goal.loop-place-preserved
loop-place-preserved c =
    let text = c.args.text.now in
    let place = c.loop-place.place in
    let is_one = sym c.if-not-is_ascii_digit.ensures.value in
    let digit = digit_is (get_or text place 0) is_one in
    let more = digits_value_more 10 text place c.loop-place-test.true in
    let value = c.loop-place.invariant.value in
    record {
      within = omega (arith, c.loop-place-test.true);
      digits = list_all_more is_ascii_digit text place 0 c.loop-place-test.true ∙ rw (c.loop-place.invariant.digits, is_one) refl;
      value = omega (arith, more, value, digit);
    }
