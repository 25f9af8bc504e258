use Rattle.std.proofs.Common.{true, Some, cond, ◌∙◌, ap, rules}
use Rattle.std.specs.BTreeMap.{is_at, get}
use Rattle.std.specs.List.{list_any}
use Rattle.rule_table.specs.Order.{key_cmp}
use Rattle.history_rules.specs.StampGroups.{moment_cmp, key_in}
use Rattle.history_rules.proofs.StampGroups.{stamp_put}
use Rattle.history_rules.proofs.stamp_groups.put_stamp.Goals as goal

pub returns-in_ok-insert-in-Some : goal.returns-in_ok-insert-in-Some
returns-in_ok-insert-in-Some c =
    stamp_put c.args.moment c.args.key c.args.groups.now (c.get_mut.follows.lender c.insert.new.self) c.insert.new.self ((c.get_mut.follows.holds c.insert.new.self).3 (search rules)).0
    (λ k. c.in_ok-insert-in-Some.ensures.updates.0 k ∙ ap (λ g. cond (is_at (key_cmp c.args.key) k) true (key_in k g)) c.in-Some.ensures.value)

pub returns-in_ok-insert-in-None-2 : goal.returns-in_ok-insert-in-None-2
returns-in_ok-insert-in-None-2 c =
    let same = c.get_mut.follows.holds-at-none in
    stamp_put c.args.moment c.args.key c.args.groups.now c.insert-in-None-2.new.self c.insert-in-None.new.self
    (λ q. c.in_ok-insert-in-None-2.ensures.updates.0 q ∙ ap (λ m. cond (is_at (moment_cmp c.args.moment) q) (Some c.insert-in-None.new.self) (get moment_cmp m q)) same)
    (λ k. c.in_ok-insert-in-None.ensures.updates.0 k ∙ ap (λ ks. cond (is_at (key_cmp c.args.key) k) true (list_any (is_at (key_cmp k)) ks)) c.new-group.ensures.empty
    ∙ ap (λ g. cond (is_at (key_cmp c.args.key) k) true (key_in k g)) c.in-None.ensures.value)
