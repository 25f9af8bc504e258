use Rattle.std.proofs.Common.{eq-eqb, refl}
use Rattle.std.proofs.lemmas.Str.{utf8_valid_len-IsUtf8}
use Rattle.feed_codec.proofs.Ascii.{no_fault}
use Rattle.feed_codec.proofs.checking.check_text.Goals as goal

pub returns-in-Ok-clause-answer : goal.returns-in-Ok-clause-answer
returns-in-Ok-clause-answer c = rw (eq-eqb _ _ (utf8_valid_len-IsUtf8 c.args.payload.now c.in-Ok.ensures.cases.1)) refl

pub returns-then-is_ascii-clause-answer : goal.returns-then-is_ascii-clause-answer
returns-then-is_ascii-clause-answer c = no_fault c.args.payload.now (c.is_ascii.ensures c.if-is_ascii.true)
