use Rattle.std.proofs.Common.{◌&&◌, ◌||◌, not, ap, ◌∙◌, sym}
use Rattle.history_rules.specs.Stamps.{holds, same_stamp, stamp_of}
use Rattle.row_changes.specs.Times.{are_given, is_stamp}
use Rattle.row_changes.proofs.Stamped.{kept-stays, other-moves}
use Rattle.row_changes.proofs.stamps.add_time.Goals as goal

pub returns-in-None : goal.returns-in-None
returns-in-None c = λ s. ap (λ t. (is_stamp c.args.key.now t s && not (are_given c.args.had s.at.stamp)) || holds c.args.stamps s) (sym c.in-None.is)

pub returns-then-has : goal.returns-then-has
returns-then-has c = λ s.
    ap (λ b. b || holds c.args.stamps s) (sym (kept-stays c.args.key.now s c.in-Some.time c.args.had (sym c.has.ensures ∙ c.if-has.true)))
    ∙ ap (λ t. (is_stamp c.args.key.now t s && not (are_given c.args.had s.at.stamp)) || holds c.args.stamps s) (sym c.in-Some.is)

pub returns-in_ok-next-in-Some : goal.returns-in_ok-next-in-Some
returns-in_ok-next-in-Some c = λ s.
    c.in_ok-next-in-Some.ensures s ∙ ap (λ k. same_stamp (stamp_of c.args.key.now.feed c.in-Some.time k) s || holds c.args.stamps s) c.in_ok-clone-in-Some.ensures
    ∙ ap (λ b. b || holds c.args.stamps s) (sym (other-moves c.args.key.now s c.in-Some.time c.args.had (sym c.has.ensures ∙ c.if-has.false)))
    ∙ ap (λ t. (is_stamp c.args.key.now t s && not (are_given c.args.had s.at.stamp)) || holds c.args.stamps s) (sym c.in-Some.is)
