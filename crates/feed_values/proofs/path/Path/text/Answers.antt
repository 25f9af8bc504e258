use Rattle.std.proofs.Common.{◌∙◌, sym}
use Rattle.feed_values.proofs.PathTexts.{with_index}
use Rattle.feed_values.proofs.path.Path.text.Goals as goal

pub returns : goal.returns
returns c =
    c.in_ok-write.ensures.bytes ∙ rw (c.in_ok-text.ensures.bytes, c.before_index-before.ensures, c.after_index-after.ensures) (with_index c.args.self.slot c.args.self.index (sym c.has_index.ensures ∙ c.if-not-has_index.false))
