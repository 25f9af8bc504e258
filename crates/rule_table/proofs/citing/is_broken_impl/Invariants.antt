use Rattle.std.proofs.Common.{◌≡◌, [], take, drop, map}
use Rattle.feed_values.specs.Cells.{cell_value}
use Rattle.rule_table.specs.Asked.{place_value}
use Rattle.rule_table.specs.Cited.{broken_from}
use Rattle.rule_table.proofs.citing.is_broken_impl.Given as goal

-- whether the row is broken is told by the values so far and the entries that are left
abbrev pub invariant-loop-k : goal.invariant-loop-k
invariant-loop-k g l =
    broken_from (g.A.Answers.answers l.answers) (place_value l.place) l.atoms (map cell_value (take l.k l.cells)) (drop l.k l.cites) ≡
    broken_from (g.A.Answers.answers l.answers) (place_value l.place) l.atoms [] l.cites
