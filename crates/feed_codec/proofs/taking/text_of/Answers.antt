use Rattle.std.proofs.Common.{refl}
use Rattle.feed_codec.proofs.ValidTexts.{text_right}
use Rattle.feed_codec.proofs.taking.text_of.Goals as goal

pub returns-in_ok-of-in-Ok-clause-fine : goal.returns-in_ok-of-in-Ok-clause-fine
returns-in_ok-of-in-Ok-clause-fine c = text_right c.args.payload.now c.in-Ok.ensures.cases.1 c.args.payload.now refl
