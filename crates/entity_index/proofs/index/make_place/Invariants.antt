use Rattle.std.proofs.Common.{◌≡◌, ◌+◌, ◌-◌, ℕ, vec_len}
use Rattle.entity_index.specs.Rooms.{room_of}
use Rattle.entity_index.proofs.index.make_place.Given as goal

abbrev pub invariant-loop-rooms : goal.invariant-loop-rooms
invariant-loop-rooms l = (g : ℕ) → room_of l.rooms.items g ≡ room_of l.fn.rooms.items g

abbrev pub decreases-loop-rooms : goal.decreases-loop-rooms
decreases-loop-rooms l = (l.place + 1) - vec_len l.rooms
