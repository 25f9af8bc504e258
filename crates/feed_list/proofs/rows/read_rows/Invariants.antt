use Rattle.std.proofs.Common.{◌≡◌, ◌≤◌, ◌+◌, length}
use Rattle.feed_list.specs.Lists.{rows_from, with_front}
use Rattle.feed_list.proofs.rows.read_rows.Given as goal

-- the rows so far stand before those that are left
abbrev pub invariant-loop-list : goal.invariant-loop-list
invariant-loop-list l = record {
  rest : with_front l.list (rows_from l.number l.rows) ≡ rows_from 1 l.fn.rows;
  few : l.number + length l.rows ≤ 1000001;
}

abbrev pub decreases-loop-list : goal.decreases-loop-list
decreases-loop-list l = length l.rows
