-- What the definitions stand for, in words of the updates, the stops and the events.
use Rattle.std.specs.Prelude.{◌≡◌, ◌↔◌, ℕ, ℤ, negsuc, ◌≤ℤ◌, List, Contains, Option, Some, None, slice_get}
use Rattle.feed_values.specs.declared.stop_time_update.StopTimeUpdate.{StopTimeUpdate}
use Rattle.propagation.specs.Events.{Event, events}
use Rattle.propagation.specs.Matching.{AreMatches, matcher}
use Rattle.propagation.specs.Setters.{AreInOrder, governing, set_at, setters}
use Rattle.propagation.specs.Stops.{Stop}
use Rattle.propagation.specs.declared.placed_setter.PlacedSetter.{PlacedSetter}
use Rattle.propagation.specs.declared.setter.Setter.{Setter}
use Rattle.propagation.specs.declared.source.Source.TheVariants as source

-- updates match stops in some way
abbrev pub MatchInSomeWay : Type 0
MatchInSomeWay = (stops : List Stop) (updates : List StopTimeUpdate) → (matches : List (Option ℕ)) × AreMatches stops updates matches

-- and in one way alone
abbrev pub MatchInOneWay : Type 0
MatchInOneWay = (stops : List Stop) (updates : List StopTimeUpdate) (one other : List (Option ℕ))
    → AreMatches stops updates one → AreMatches stops updates other → one ≡ other

-- the update of a stop is the one that matches it, so no two updates match one stop
abbrev pub MatcherIsTheMatch : Type 0
MatcherIsTheMatch = (stops : List Stop) (updates : List StopTimeUpdate) (matches : List (Option ℕ)) → AreMatches stops updates matches
    → (k place : ℕ) → (matcher matches place ≡ Some k) ↔ (slice_get matches k ≡ Some (Some place))

-- the set of setters: the delay of the whole trip at -1, and at each event what the update of its stop sets there
pub data IsSetter (delay : Option ℤ) (events : List Event) : PlacedSetter → Type 0 where
  of_trip : (d : ℤ) → delay ≡ Some d → IsSetter delay events (record { position = negsuc 0; setter = record { source = source.Trip; delay = Some d } })
  of_event : (e : Event) (setter : Setter) → Contains events e → set_at e ≡ Some setter → IsSetter delay events (record { position = e.position; setter = setter })

-- the list of setters has the members of that set
abbrev pub ListIsTheSet : Type 0
ListIsTheSet = (delay : Option ℤ) (events : List Event) (s : PlacedSetter) → Contains (setters delay events) s ↔ IsSetter delay events s

-- and its positions rise, so no two setters have one position
abbrev pub PositionsRise : Type 0
PositionsRise = (delay : Option ℤ) (zero : ℤ) (stops : List Stop) (updates : List StopTimeUpdate) (matches : List (Option ℕ))
    → AreInOrder (setters delay (events zero stops updates matches))

-- the setter of the greatest position at or before a position
abbrev pub IsGreatest : (PlacedSetter → Type 0) → ℤ → Option Setter → Type 0
IsGreatest In position None = (s : PlacedSetter) → In s → s.position ≤ℤ position → ⊥
IsGreatest In position (Some setter) = (s : PlacedSetter) × In s × (s.setter ≡ setter) × (s.position ≤ℤ position)
    × ((other : PlacedSetter) → In other → other.position ≤ℤ position → other.position ≤ℤ s.position)

-- the setter that governs a position is that of the set
abbrev pub GoverningIsGreatest : Type 0
GoverningIsGreatest = (delay : Option ℤ) (zero : ℤ) (stops : List Stop) (updates : List StopTimeUpdate) (matches : List (Option ℕ)) (position : ℤ)
    → IsGreatest (IsSetter delay (events zero stops updates matches)) position (governing (setters delay (events zero stops updates matches)) position)
