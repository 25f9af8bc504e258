use Rattle.std.proofs.Common.{◌∙◌, ◌||◌, ap, sym}
use Rattle.std.specs.BTreeMap.{is_at}
use Rattle.std.specs.List.{list_any}
use Rattle.std.specs.Ordering.{eq_by_cmp}
use Rattle.rule_table.specs.Order.{key_cmp, same_key}
use Rattle.rule_table.proofs.SameKeys.{same-key}
use Rattle.rule_table.proofs.SameTests.{any-same}
use Rattle.held_feeds.specs.part_laws.Touched.{is_among}
use Rattle.snapshot_steps.proofs.Keys.{any_among, keys_are}
use Rattle.snapshot_steps.proofs.touching.in_order.Goals as goal

pub returns : goal.returns
returns c =
    keys_are (is_among c.args.some.now) c.in_ok-found.found c.in_ok-found.ensures.ordered (λ key.
    ap (list_any (same_key key)) c.in_ok-found.ensures.all ∙ sym (any-same (eq_by_cmp key_cmp key) (same_key key) (same-key key) _) ∙ c.in_ok-put_copies.ensures key
    ∙ ap (λ ks. list_any (is_at (key_cmp key)) ks || list_any (same_key key) c.args.some.now) c.new-keys.ensures.empty ∙ any_among key c.args.some.now)
