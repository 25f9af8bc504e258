use Rattle.std.proofs.Common.{◌∙◌, sym}
use Rattle.rt_words.proofs.Numbers.{parsed}
use Rattle.rt_words.proofs.number.number_of.Goals as goal

pub returns : goal.returns
returns c =
    c.ok.ensures.value ∙ parsed c.args.text.now c.parse.result (sym c.are_digits.ensures ∙ c.if-not-are_digits.false) c.if-text-gt20.false c.parse.ensures.value.0
