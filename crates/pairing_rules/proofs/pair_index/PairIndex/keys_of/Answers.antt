use Rattle.std.proofs.Common.{Bool, ◌&&◌, ◌||◌, sym, ◌∙◌, ap}
use Rattle.std.specs.Prelude.{map}
use Rattle.std.specs.List.{list_any}
use Rattle.std.specs.Ordering.{eq_by_cmp}
use Rattle.std.specs.BTreeMap.{is_at}
use Rattle.rule_table.specs.Order.{key_cmp, same_key}
use Rattle.rule_table.specs.Pairs.{PairRow, is_of}
use Rattle.pairing_rules.specs.Seats.{row_at}
use Rattle.pairing_rules.proofs.Order.{same-key}
use Rattle.pairing_rules.proofs.Lists.{any-same}
use Rattle.pairing_rules.proofs.InOrder.{any-in-order}
use Rattle.pairing_rules.proofs.SharedKeys.{any-map}
use Rattle.pairing_rules.proofs.pair_index.PairIndex.keys_of.Goals as goal

pub returns-clause-keys : goal.returns-clause-keys
returns-clause-keys c = λ key.
    let es = c.self.inside.seats.entries in
    let test : PairRow → Bool = λ r. is_of c.args.kind r && same_key key r.key in
    ap (list_any (same_key key)) c.in_ok-found.ensures.all ∙ sym (any-same (eq_by_cmp key_cmp key) (same_key key) (same-key key) _) ∙ c.in_ok-put_kind_keys.ensures key
    ∙ ap (λ ks. list_any (is_at (key_cmp key)) ks || list_any (λ e. test (row_at e)) es) c.new-keys.ensures.empty
    ∙ any-map row_at test es ∙ sym (any-in-order test (map row_at es)) ∙ ap (list_any test) c.self.view_is
