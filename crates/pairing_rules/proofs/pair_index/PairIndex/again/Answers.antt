use Rattle.std.proofs.Common.{◌||◌, sym, ◌∙◌, ap}
use Rattle.std.specs.Prelude.{map}
use Rattle.std.specs.List.{list_any}
use Rattle.rule_table.specs.Pairs.{has_row, same_row}
use Rattle.pairing_rules.specs.Seats.{row_at}
use Rattle.pairing_rules.proofs.InOrder.{any-in-order}
use Rattle.pairing_rules.proofs.Members.{same_rows}
use Rattle.pairing_rules.proofs.SharedKeys.{any-map}
use Rattle.pairing_rules.proofs.pair_index.PairIndex.again.Goals as goal

pub returns : goal.returns
returns c =
    let es = c.self.inside.seats.entries in
    same_rows c.in_ok-index.index c.args.self.now c.stands_in_order-2.ensures c.stands_in_order.ensures
    (λ r. c.in_ok-index.ensures r ∙ ap (λ u. has_row u r || list_any (λ e. same_row r (row_at e)) es) c.new.ensures
    ∙ any-map row_at (same_row r) es ∙ sym (any-in-order (same_row r) (map row_at es)) ∙ ap (λ u. has_row u r) c.self.view_is)
