use Rattle.std.proofs.Common.{subst}
use Rattle.std.specs.Prelude.{map}
use Rattle.std.specs.List.Sorted.{IsStrictlySortedBy}
use Rattle.pairing_rules.specs.Rows.{row_cmp}
use Rattle.pairing_rules.specs.Seats.{row_at}
use Rattle.pairing_rules.proofs.InOrder.{sorted-in-order}
use Rattle.pairing_rules.proofs.pair_index.PairIndex.stands_in_order.Goals as goal

pub returns : goal.returns
returns c = subst (IsStrictlySortedBy row_cmp) c.self.view_is (sorted-in-order (map row_at c.self.inside.seats.entries))
