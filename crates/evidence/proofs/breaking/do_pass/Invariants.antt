use Rattle.std.proofs.Common.{◌≡◌, ◌++◌, take, drop, map, length}
use Rattle.feed_values.specs.Cells.{cell_value}
use Rattle.rule_table.specs.Cited.{values_of}
use Rattle.evidence.proofs.breaking.do_pass.Given as goal

-- the cells so far and the values of the facts that are left are the values of all facts
abbrev pub invariant-loop-k : goal.invariant-loop-k
invariant-loop-k l = record {
  long : length l.cells ≡ 6;
  same : map cell_value (take l.k l.cells) ++ values_of (drop l.k l.facts) ≡ values_of l.facts;
}
