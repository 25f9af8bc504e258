use Rattle.std.proofs.Common.{◌≡◌, ◌-◌, length, drop, arith, sym, ◌∙◌}
use Rattle.std.proofs.lemmas.List.{length-drop, take_all}
use Rattle.feed_codec.proofs.Ascii.{four_more, and_the_rest}
use Rattle.feed_codec.proofs.checking.is_ascii.Goals as goal

pub loop-place-preserved : goal.loop-place-preserved
loop-place-preserved c = record {
  within = omega (arith, c.loop-place-test.true, c.loop-place.invariant.within);
  ascii = four_more c.args.text.now c.loop-place.place c.loop-place.invariant.ascii c.if-text-place-ge128.false c.if-text-place-ge128-2.false
      c.if-text-place-ge128-3.false c.if-text-place-ge128-4.false;
}

pub returns : goal.returns
returns c = λ yes.
    let text = c.args.text.now in
    let place = c.loop-place.place in
    let size : length (drop place text) ≡ length text - place = length-drop place text in
    let all = take_all (length text - place) (drop place text) (omega (arith, size)) in
    and_the_rest text place c.loop-place.invariant.within c.loop-place.invariant.ascii (rw all at (sym c.are_ascii.ensures ∙ yes))
