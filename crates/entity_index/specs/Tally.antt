-- How many entities of an id came so far, where the first one isn't counted if it is held.
use Rattle.std.specs.Prelude.{◌≡◌, ℕ, ◌+◌, Bool, true, false, List, Option, Some, None, option_map, get_or}
use mathlib.Core.Bool.{beq}
use Rattle.rule_table.specs.declared.key.EntityKey.{EntityKey}
use Rattle.entity_index.specs.Held.{at_key}
use Rattle.entity_index.specs.Seats.{HeldSeat, Seats}

-- the key of the first entity of an id
abbrev pub first_key : ℕ → List ℕ → EntityKey
first_key f id = record { feed = f; id = id; occurrence = 0 }

-- Whether the first one came, if it is held; how many came; and how many of them were counted: where the first is held all but that one, and else all.
abbrev pub IsTally : Option Bool → ℕ → ℕ → Type 0
IsTally None n counted = counted ≡ n
IsTally (Some false) n counted = (n ≡ 0) × (counted ≡ 0)
IsTally (Some true) n counted = n ≡ counted + 1

-- if it is held, it came
abbrev pub came_then : Option Bool → Option Bool
came_then o = option_map (λ b. true) o

-- whether what is held under a key was met, if anything is
abbrev pub met_at : List Bool → Seats → EntityKey → Option Bool
met_at met seats key = option_map (λ seat. get_or met seat.place false) (at_key key seats)

-- whether it is of a phase, if anything is
abbrev pub phase_at : Bool → Option HeldSeat → Option Bool
phase_at phase o = option_map (λ seat. beq seat.phase phase) o
