use Rattle.std.proofs.Common.{◌↔◌, [], take, drop, map}
use Rattle.feed_values.specs.Cells.{cell_value}
use Rattle.rule_table.specs.Asked.{place_value}
use Rattle.rule_table.specs.Broken.{IsFormed}
use Rattle.evidence.proofs.breaking.is_formed.Given as goal

-- whether all facts are formed is told by those that are left
abbrev pub invariant-loop-k : goal.invariant-loop-k
invariant-loop-k l = IsFormed (place_value l.place) (map cell_value (take l.k l.cells)) (drop l.k l.cites) (drop l.k l.facts) ↔ IsFormed (place_value l.place) [] l.cites l.facts
