use Rattle.std.proofs.Common.{◌||◌, ap, ◌∙◌, sym}
use Rattle.std.specs.BTreeMap.{is_at}
use Rattle.std.specs.List.{list_any}
use Rattle.std.specs.Ordering.{eq_by_cmp}
use Rattle.rule_table.specs.Order.{key_cmp, same_key}
use Rattle.rule_table.proofs.SameKeys.{same-key}
use Rattle.rule_table.proofs.SameTests.{any-same}
use Rattle.row_changes.proofs.touched.bounded_keys.Goals as goal

pub returns-clause-bounded : goal.returns-clause-bounded
returns-clause-bounded c = λ key.
    ap (list_any (same_key key)) c.in_ok-found.ensures.all ∙ sym (any-same (eq_by_cmp key_cmp key) (same_key key) (same-key key) _) ∙ c.in_ok-put_keys-2.ensures key
    ∙ ap (λ b. b || list_any (same_key key) c.in_ok-now.now) (c.in_ok-put_keys.ensures key ∙ ap (λ ks. list_any (is_at (key_cmp key)) ks || list_any (same_key key) c.args.before) c.new-keys.ensures.empty)
    ∙ ap (λ b. list_any (same_key key) c.args.before || b) (c.in_ok-now.ensures.above key)
