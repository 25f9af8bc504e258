use Rattle.std.proofs.Common.{◌&&◌, not, sym, ◌∙◌, ap}
use Rattle.history_rules.specs.Stamps.{same_stamp, stamp_of, holds, stamps_of}
use Rattle.history_rules.specs.StampGroups.{has_at}
use Rattle.history_rules.proofs.StampGroups.{holds-group, same-stamp, small_taken}
use Rattle.history_rules.proofs.stamp_index.StampIndex.take_out.Goals as goal

pub returns : goal.returns
returns c = λ s.
    let one = stamp_of c.args.feed c.args.stamp c.args.key.now in
    holds-group c.take_stamp.new.groups.entries c.len-after.ensures.ordered s ∙ c.take_stamp.ensures s.at s.key ∙ ap (λ b. not b && has_at c.self.inside.groups s.at s.key) (same-stamp one s)
    ∙ ap (λ b. not (same_stamp one s) && b) (sym (holds-group c.self.inside.groups.entries c.len-before.ensures.ordered s) ∙ ap (λ xs. holds xs s) c.self.view_is)

pub invariant_of-self : goal.invariant_of-self
invariant_of-self c = λ s.
    let one = stamp_of c.args.feed c.args.stamp c.args.key.now in
    small_taken one s (holds (stamps_of c.self.inside.groups.entries) s) _ (c.self.invariant s)
    (holds-group c.take_stamp.new.groups.entries c.len-after.ensures.ordered s ∙ c.take_stamp.ensures s.at s.key ∙ ap (λ b. not b && has_at c.self.inside.groups s.at s.key) (same-stamp one s)
    ∙ ap (λ b. not (same_stamp one s) && b) (sym (holds-group c.self.inside.groups.entries c.len-before.ensures.ordered s)))
