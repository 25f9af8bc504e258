use Rattle.std.proofs.Common.{◌≡◌, ◌+◌, ◌≤◌, ◌^◌, length}
use Rattle.schedule_tables.specs.Tables.{rows_from}
use Rattle.schedule_tables.proofs.table.read_rows.Given as goal

-- what is left goes on from what was read, and the numbers of the rows stay small
abbrev pub invariant-loop-row : goal.invariant-loop-row
invariant-loop-row g l = record {
  rest : rows_from g.T.Table.format l.header l.number l.table l.rows ≡ rows_from g.T.Table.format l.header 2 g.T.Table.format.empty l.fn.rows;
  few : l.number + length l.rows ≤ 2 ^ 63 + 2;
}

abbrev pub decreases-loop-row : goal.decreases-loop-row
decreases-loop-row g l = length l.rows
