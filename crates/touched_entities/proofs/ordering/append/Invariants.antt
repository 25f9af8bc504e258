use Rattle.std.proofs.Common.{◌≡◌, ◌++◌}
use Rattle.touched_entities.proofs.ordering.append.Given as goal

abbrev pub invariant-loop-item : goal.invariant-loop-item
invariant-loop-item g l = l.all ++ l.item-iterator.rest.items ≡ l.fn.all ++ l.fn.items
