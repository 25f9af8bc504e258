use Rattle.std.proofs.Common.{◌≡◌, ◌+◌, ◌-◌, ℕ, vec_len}
use Rattle.cached_laws.specs.State.{header_at}
use Rattle.held_feeds.proofs.feeds.make_place.Given as goal

abbrev pub invariant-loop-alloc : goal.invariant-loop-alloc
invariant-loop-alloc l = (g : ℕ) → header_at l.headers.items g ≡ header_at l.fn.headers.items g

abbrev pub decreases-loop-alloc : goal.decreases-loop-alloc
decreases-loop-alloc l = (l.feed + 1) - vec_len l.headers
