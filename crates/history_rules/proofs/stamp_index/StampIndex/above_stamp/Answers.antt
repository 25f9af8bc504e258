use Rattle.std.proofs.Common.{◌&&◌, ◌||◌, sym, ◌∙◌, ap}
use Rattle.std.specs.List.{list_any}
use Rattle.std.specs.Ordering.{eq_by_cmp}
use Rattle.std.specs.BTreeMap.{is_at}
use Rattle.rule_table.specs.Order.{key_cmp, same_key}
use Rattle.history_rules.specs.Stamps.{is_above, stamps_of}
use Rattle.history_rules.specs.StampGroups.{between}
use Rattle.rule_table.proofs.SameKeys.{same-key}
use Rattle.rule_table.proofs.SameTests.{any-same}
use Rattle.history_rules.proofs.StampGroups.{between-above, far}
use Rattle.history_rules.proofs.stamp_index.StampIndex.above_stamp.Goals as goal

pub returns-clause-above : goal.returns-clause-above
returns-clause-above c = λ k.
    let stamps = stamps_of c.self.inside.groups.entries in
    ap (list_any (same_key k)) c.in_ok-found.ensures.all ∙ sym (any-same (eq_by_cmp key_cmp k) (same_key k) (same-key k) _) ∙ c.in_ok-put_between.ensures k
    ∙ ap (λ ks. list_any (is_at (key_cmp k)) ks || list_any (between (far c.args.feed c.args.bound) (far c.args.feed 18446744073709551615) k) stamps) c.new-keys.ensures.empty
    ∙ between-above c.args.feed c.args.bound k stamps c.self.invariant ∙ ap (list_any (λ s. is_above c.args.feed c.args.bound s && same_key k s.key)) c.self.view_is
