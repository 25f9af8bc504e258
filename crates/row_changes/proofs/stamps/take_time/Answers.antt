use Rattle.std.proofs.Common.{◌&&◌, not, ap, ◌∙◌, sym}
use Rattle.history_rules.specs.Stamps.{holds}
use Rattle.row_changes.specs.Times.{are_given, is_stamp}
use Rattle.row_changes.proofs.Stamped.{kept-stays, other-moves}
use Rattle.row_changes.proofs.stamps.take_time.Goals as goal

pub returns-in-None : goal.returns-in-None
returns-in-None c = λ s. ap (λ t. not (is_stamp c.args.key.now t s && not (are_given c.args.kept s.at.stamp)) && holds c.args.stamps.now s) (sym c.in-None.is)

pub returns-then-not-has : goal.returns-then-not-has
returns-then-not-has c = λ s.
    c.take_out.ensures s
    ∙ ap (λ b. not b && holds c.args.stamps.now s) (sym (other-moves c.args.key.now s c.in-Some.time c.args.kept (sym c.has.ensures ∙ c.if-not-has.true)))
    ∙ ap (λ t. not (is_stamp c.args.key.now t s && not (are_given c.args.kept s.at.stamp)) && holds c.args.stamps.now s) (sym c.in-Some.is)

pub returns-else-not-has : goal.returns-else-not-has
returns-else-not-has c = λ s.
    ap (λ b. not b && holds c.args.stamps.now s) (sym (kept-stays c.args.key.now s c.in-Some.time c.args.kept (sym c.has.ensures ∙ c.if-not-has.false)))
    ∙ ap (λ t. not (is_stamp c.args.key.now t s && not (are_given c.args.kept s.at.stamp)) && holds c.args.stamps.now s) (sym c.in-Some.is)
