use Rattle.std.proofs.Common.{◌||◌, sym, ◌∙◌, ap}
use Rattle.history_rules.specs.Stamps.{same_stamp, stamp_of, holds, stamps_of}
use Rattle.history_rules.specs.StampGroups.{has_at}
use Rattle.history_rules.proofs.StampGroups.{holds-group, same-stamp, small_put}
use Rattle.history_rules.proofs.stamp_index.StampIndex.add.Goals as goal

pub returns : goal.returns
returns c = λ s.
    let one = stamp_of c.args.feed c.args.stamp c.args.key in
    holds-group c.put_stamp.new.groups.entries c.len-after.ensures.ordered s ∙ c.in_ok-put_stamp.ensures s.at s.key ∙ ap (λ b. b || has_at c.self.inside.groups s.at s.key) (same-stamp one s)
    ∙ ap (λ b. same_stamp one s || b) (sym (holds-group c.self.inside.groups.entries c.len-before.ensures.ordered s) ∙ ap (λ xs. holds xs s) c.self.view_is)

pub invariant_of-result : goal.invariant_of-result
invariant_of-result c = λ s.
    let one = stamp_of c.args.feed c.args.stamp c.args.key in
    small_put one s (holds (stamps_of c.self.inside.groups.entries) s) _ c.ranges.stamp.fits (c.self.invariant s)
    (holds-group c.put_stamp.new.groups.entries c.len-after.ensures.ordered s ∙ c.in_ok-put_stamp.ensures s.at s.key ∙ ap (λ b. b || has_at c.self.inside.groups s.at s.key) (same-stamp one s)
    ∙ ap (λ b. same_stamp one s || b) (sym (holds-group c.self.inside.groups.entries c.len-before.ensures.ordered s)))
