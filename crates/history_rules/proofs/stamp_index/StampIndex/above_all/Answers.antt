use Rattle.std.proofs.Common.{◌&&◌, sym, ◌∙◌, ap}
use Rattle.std.specs.List.{list_any}
use Rattle.rule_table.specs.Order.{same_key}
use Rattle.history_rules.specs.Stamps.{is_above, stamps_of}
use Rattle.history_rules.proofs.StampGroups.{none-above}
use Rattle.history_rules.proofs.stamp_index.StampIndex.above_all.Goals as goal

pub returns-clause-above : goal.returns-clause-above
returns-clause-above c = λ k.
    ap (list_any (same_key k)) (c.in_ok-found.ensures.all ∙ c.new-keys.ensures.empty) ∙ sym (none-above c.args.feed c.args.bound k (stamps_of c.self.inside.groups.entries) c.self.invariant c.requires)
    ∙ ap (list_any (λ s. is_above c.args.feed c.args.bound s && same_key k s.key)) c.self.view_is
