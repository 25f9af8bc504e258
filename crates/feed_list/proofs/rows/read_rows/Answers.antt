use Rattle.std.proofs.Common.{◌≡◌, ◌+◌, ◌∙◌, ◌∷◌, List, length, sym, ap, arith}
use Rattle.csv.specs.Records.{fields_of}
use Rattle.csv_records.specs.Records.{Record}
use Rattle.feed_list.specs.Lists.{rows_from, with_front}
use Rattle.feed_list.proofs.Lists.{row_read}
use Rattle.feed_list.proofs.rows.read_rows.Goals as goal

pub loop-list-preserved : goal.loop-list-preserved
loop-list-preserved c =
    let fields = fields_of c.next.new.row in
    let left = c.next.new.self in
    let number = c.loop-list.number in
    let there : c.loop-list.rows ≡ fields ∷ left = c.in_ok-next.ensures.row c.if-branch.true in
    let size : length c.loop-list.rows ≡ length left + 1 = ap (λ (l : List Record). length l) there ∙ omega arith in
    let few = c.loop-list.invariant.few in
    record {
      rest = ap (λ l. with_front l (rows_from (number + 1) left)) c.in_ok-push_row.ensures
          ∙ sym (row_read c.loop-list.list number fields left c.in_ok-row.row c.in_ok-row.ensures.ok)
          ∙ ap (λ l. with_front c.loop-list.list (rows_from number l)) (sym there) ∙ c.loop-list.invariant.rest;
      few = omega (arith, size, few);
    }
