use Rattle.std.proofs.Common.{ap, ◌∙◌, sym}
use Rattle.std.specs.List.{list_any}
use Rattle.rule_table.specs.Order.{same_key}
use Rattle.row_changes.specs.Touched.{is_over_given}
use Rattle.row_changes.proofs.touched.keys_above.Goals as goal

pub returns-in_ok-keys-in-Some-clause-above : goal.returns-in_ok-keys-in-Some-clause-above
returns-in_ok-keys-in-Some-clause-above c = λ key.
    c.in_ok-keys-in-Some.ensures.above key ∙ ap (λ b. is_over_given c.args.feed b c.args.stamps.now key) (sym c.in-Some.is)

pub returns-in_ok-keys-in-None-clause-above : goal.returns-in_ok-keys-in-None-clause-above
returns-in_ok-keys-in-None-clause-above c = λ key.
    ap (list_any (same_key key)) (c.in_ok-keys-in-None.ensures.all ∙ c.new.ensures.empty) ∙ ap (λ b. is_over_given c.args.feed b c.args.stamps.now key) (sym c.in-None.is)
