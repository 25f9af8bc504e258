use Rattle.std.proofs.Common.{◌≡◌, ◌≤◌, ◌<◌, ◌+◌, ◌-◌, ℕ, length, vec_len}
use Rattle.touched_entities.specs.Told.{feed_told}
use Rattle.touched_entities.proofs.tolds.make_place.Given as goal

abbrev pub invariant-loop-alloc : goal.invariant-loop-alloc
invariant-loop-alloc l =
    record {
      same : (g : ℕ) → feed_told l.feeds.items g ≡ feed_told l.fn.feeds.items g;
      few : length l.fn.feeds.items ≤ 256 → length l.feeds.items ≤ 256;
    }

abbrev pub decreases-loop-alloc : goal.decreases-loop-alloc
decreases-loop-alloc l = (l.feed + 1) - vec_len l.feeds
