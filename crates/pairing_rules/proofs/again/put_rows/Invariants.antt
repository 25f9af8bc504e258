use Rattle.std.proofs.Common.{◌≡◌, ◌||◌}
use Rattle.std.specs.List.{list_any}
use Rattle.rule_table.specs.Pairs.{PairRow, has_row, same_row}
use Rattle.pairing_rules.specs.Seats.{row_at}
use Rattle.pairing_rules.proofs.again.put_rows.Given as goal

abbrev pub invariant-loop-seat : goal.invariant-loop-seat
invariant-loop-seat l = (r : PairRow) → (has_row l.index r || list_any (λ e. same_row r (row_at e)) l.seat-iterator) ≡ (has_row l.fn.index r || list_any (λ e. same_row r (row_at e)) l.seats.entries)
