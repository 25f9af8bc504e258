use Rattle.std.proofs.Common.{◌≡◌, Some, sym, ap, subst, ◌∙◌, arith}
use Rattle.feed_codec.specs.declared.refusal.Refusal.{Refusal}
use Rattle.feed_stream.specs.declared.splitter.Found.TheVariants as found
use Rattle.feed_stream.specs.Sofar.{Sofar}
use Rattle.feed_stream.specs.Came.{Came}
use Rattle.feed_stream.specs.Inside.{sofar}
use Rattle.feed_stream.proofs.Feeding.{came_large, came_settled}
use Rattle.feed_stream.proofs.splitter.Splitter.finish.Goals as goal

pub returns-in-Refused-clause-answer : goal.returns-in-Refused-clause-answer
returns-in-Refused-clause-answer c b came =
    let r = c.in-Refused.field-0 in
    let n = c.in-Refused.count in
    let before : Came b (sofar (found.Refused r n)) = subst (λ (s : Sofar). Came b s) (sym c.self.view_is ∙ ap sofar c.in-Refused.is) came in
    came_large b n r (omega (arith, c.if-count-gt-SNAPSHOT_LIMIT.true)) before ∙ ap (λ (x : Refusal). Some x) (sym c.too_large.ensures)

pub returns-in-Refused-2-clause-answer : goal.returns-in-Refused-2-clause-answer
returns-in-Refused-2-clause-answer c b came =
    let r = c.in-Refused-2.refusal in
    let n = c.in-Refused-2.field-1 in
    let both : found.Refused c.in-Refused.field-0 c.in-Refused.count ≡ found.Refused r n = sym c.in-Refused.is ∙ c.in-Refused-2.is in
    let same : c.in-Refused.count ≡ n = cc in
    let before : Came b (sofar (found.Refused r n)) = subst (λ (s : Sofar). Came b s) (sym c.self.view_is ∙ ap sofar c.in-Refused-2.is) came in
    came_settled b n r (omega (arith, c.if-count-gt-SNAPSHOT_LIMIT.false, same)) before
