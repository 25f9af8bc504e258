use Rattle.std.proofs.Common.{◌≡◌, [], take, drop, map}
use Rattle.feed_values.specs.Cells.{cell_value}
use Rattle.rule_table.specs.Asked.{place_value}
use Rattle.rule_table.specs.Cited.{cited, values_of}
use Rattle.rule_table.proofs.citing.cite.Given as goal

-- what the facts so far and the entries that are left give is what all entries give
abbrev pub invariant-loop-k : goal.invariant-loop-k
invariant-loop-k g l = record {
  left : cited (g.A.Answers.answers l.answers) (place_value l.place) l.facts.items (drop l.k l.cites) ≡ cited (g.A.Answers.answers l.answers) (place_value l.place) [] l.cites;
  values : values_of l.facts.items ≡ map cell_value (take l.k l.cells);
}
