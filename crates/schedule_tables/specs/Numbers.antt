-- Ids by number.
use Rattle.std.specs.Prelude.{◌≡◌, ℕ, List, Some, option_map, slice_get}
use Rattle.std.specs.FinMap.{from_entries}
use Rattle.schedule_tables.specs.Maps.{ByText, Text}

-- the id has the number
abbrev pub HasNumber : {G : Type 0} → List (Text × G) → ℕ → Text → Type 0
HasNumber entries n id = option_map (λ entry. entry.0) (slice_get entries n) ≡ Some id

-- what stands under the ids
abbrev pub map_of : {G : Type 0} → List (Text × G) → ByText G
map_of entries = from_entries entries
