use Rattle.std.proofs.Common.{◌≡◌, ◌+◌, ◌-◌, ℕ, List, vec_len}
use Rattle.history_rules.specs.HeldPeaks.{peak_of, seen}
use Rattle.history_rules.proofs.peaks.make_place.Given as goal

abbrev pub invariant-loop-alloc : goal.invariant-loop-alloc
invariant-loop-alloc l = (f : ℕ) (v : List ℕ) → peak_of (seen l.feeds.items) f v ≡ peak_of (seen l.fn.feeds.items) f v

abbrev pub decreases-loop-alloc : goal.decreases-loop-alloc
decreases-loop-alloc l = (l.feed + 1) - vec_len l.feeds
