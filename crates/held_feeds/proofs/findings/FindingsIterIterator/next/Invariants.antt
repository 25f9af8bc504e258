use Rattle.std.proofs.Common.{◌≡◌, ◌++◌, length}
use Rattle.held_feeds.specs.Left.{flat}
use Rattle.held_feeds.proofs.findings.FindingsIterIterator.next.Given as goal

abbrev pub invariant-loop-standing : goal.invariant-loop-standing
invariant-loop-standing l = l.self-inside.list ++ flat l.self-inside.lists ≡ l.fn.self

abbrev pub decreases-loop-standing : goal.decreases-loop-standing
decreases-loop-standing l = length l.self-inside.lists
