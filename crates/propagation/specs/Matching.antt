-- Which stop each update of a trip update matches.
-- (GTFS Realtime Reference, "Trip Updates", stop time updates in the order of the trip; the choice is this profile's.)
use Rattle.std.specs.Prelude.{◌≡◌, ℕ, ◌≤◌, ◌<◌, ◌+◌, ◌==◌, Bool, true, false, List, length, take, All, Option, Some, None, IfSome, slice_get}
use Rattle.std.specs.List.{position_from, slice_index_or as get_or}
use Rattle.feed_values.specs.declared.stop_time_update.StopTimeUpdate.{StopTimeUpdate}
use Rattle.propagation.specs.Stops.{Stop, names, passes}

-- a stop stands after each stop that earlier updates matched
abbrev pub StandsAfter : List (Option ℕ) → ℕ → Type 0
StandsAfter earlier place = All (λ m. IfSome m (λ matched. matched < place)) earlier

-- an update may match a stop that it names and that stands after each stop that earlier updates matched
pub record MayMatch (stops : List Stop) (update : StopTimeUpdate) (earlier : List (Option ℕ)) (place : ℕ) : Type 0 where
  pub named : passes (names update) stops place ≡ true
  pub after : StandsAfter earlier place

-- it matches the least such stop, and none where there is none
abbrev pub IsMatch : List Stop → StopTimeUpdate → List (Option ℕ) → Option ℕ → Type 0
IsMatch stops update earlier None = (place : ℕ) → MayMatch stops update earlier place → ⊥
IsMatch stops update earlier (Some place) =
    MayMatch stops update earlier place × ((other : ℕ) → MayMatch stops update earlier other → place ≤ other)

-- the stops that updates match, in the order of the updates
pub record AreMatches (stops : List Stop) (updates : List StopTimeUpdate) (matches : List (Option ℕ)) : Type 0 where
  pub size : length matches ≡ length updates
  pub each : (k : ℕ) (update : StopTimeUpdate) (m : Option ℕ) → slice_get updates k ≡ Some update → slice_get matches k ≡ Some m
      → IsMatch stops update (take k matches) m

abbrev pub is_at : ℕ → Option ℕ → Bool
is_at place None = false
is_at place (Some matched) = matched == place

-- the index of the update that matches a stop
abbrev pub matcher : List (Option ℕ) → ℕ → Option ℕ
matcher matches place = position_from (is_at place) 0 matches

-- for each stop the update that matches it
abbrev pub AreMatchers : List (Option ℕ) → List (Option ℕ) → Type 0
AreMatchers matches matchers = (place : ℕ) → place < length matchers → get_or matchers place None ≡ matcher matches place

-- each match stands after all earlier ones
abbrev pub AreOrdered : List (Option ℕ) → Type 0
AreOrdered matches = (k place : ℕ) → slice_get matches k ≡ Some (Some place) → StandsAfter (take k matches) place

-- the first place after a match
abbrev pub next_from : Option ℕ → ℕ → ℕ
next_from None from = from
next_from (Some place) from = place + 1
