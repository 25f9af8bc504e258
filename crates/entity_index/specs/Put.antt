-- What is under each key while a snapshot is taken in.
use Rattle.std.specs.Prelude.{◌≡◌, ℕ, Bool, false, IfSome, List, [], ◌∷◌, Option, Some, None, option_map, if◌then◌else◌}
use mathlib.Core.Bool.{beq}
use Rattle.feed_values.specs.Views.{entity_value}
use Rattle.rule_table.specs.declared.key.EntityKey.{EntityKey}
use Rattle.rule_table.specs.Order.{same_key}
use Rattle.entity_index.specs.Seats.{HeldSeat}
use Rattle.entity_index.specs.declared.incoming.Incoming.{Incoming}

-- what is under a key, if anything
abbrev pub Under : Type 0
Under = EntityKey → Option HeldSeat

-- what comes in takes the place of what was there, and else has no place yet
abbrev pub come : Bool → Incoming → Option HeldSeat → HeldSeat
come phase c None = record { place = 0; phase = phase; value = entity_value c.entity; parts = c.parts }
come phase c (Some seat) = record seat { value = entity_value c.entity; parts = c.parts }

abbrev pub put_one : Bool → Incoming → Under → Under
put_one phase c under key = if same_key c.key key then Some (come phase c (under key)) else under key

abbrev pub put_all : Bool → List Incoming → Under → Under
put_all phase [] under = under
put_all phase (c ∷ cs) under = put_all phase cs (put_one phase c under)

-- a seat at a place, in a phase
abbrev pub seated : ℕ → Bool → HeldSeat → HeldSeat
seated place phase seat = record seat { place = place; phase = phase }

abbrev pub seat_one : Bool → EntityKey × ℕ → Under → Under
seat_one phase e under key = if same_key e.0 key then option_map (seated e.1 phase) (under key) else under key

-- unless it is of the phase already
abbrev pub seat_first : Bool → EntityKey × ℕ → Under → Under
seat_first phase e under key = if same_key e.0 key then option_map (λ seat. if beq seat.phase phase then seat else seated e.1 phase seat) (under key) else under key

abbrev pub seat_all : Bool → List (EntityKey × ℕ) → Under → Under
seat_all phase [] under = under
seat_all phase (e ∷ es) under = seat_all phase es (seat_one phase e under)

-- nothing is of a phase
abbrev pub AreUnseated : Bool → Under → Type 0
AreUnseated phase under = (key : EntityKey) → IfSome (under key) (λ seat. beq seat.phase phase ≡ false)

-- what is of a phase stays
abbrev pub staying : Bool → Option HeldSeat → Option HeldSeat
staying phase None = None
staying phase (Some seat) = if beq seat.phase phase then Some seat else None
