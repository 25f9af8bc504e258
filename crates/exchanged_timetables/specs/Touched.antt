-- The entities that are judged again with another timetable.
use Rattle.std.specs.Prelude.{◌≡◌, true, false, List, map, Option}
use Rattle.timetable.specs.Timetables.{Tables}
use Rattle.rule_table.specs.declared.key.EntityKey.{EntityKey}
use Rattle.rule_table.specs.Groups.{Each}
use Rattle.rule_table.specs.Order.{key_cmp}
use Rattle.rule_table.specs.Rises.{Rises}
use Rattle.taken_snapshots.specs.cached_laws.part_laws.Touched.{is_among}
use Rattle.taken_snapshots.specs.entity_index.Held.{KeyedValues}
use Rattle.taken_snapshots.specs.entity_parts.Found.{local_found}
use Rattle.taken_snapshots.specs.cached_laws.State.{State, IsState, feed_of}
use Rattle.taken_snapshots.specs.cached_laws.Cached.{AreCached}
use Rattle.taken_snapshots.specs.held_feeds.Entities.{entities_held}

-- keys in order, each of them that of one of some entities
pub record AreKeysOf (entities : KeyedValues) (keys : List EntityKey) : Type 0 where
  pub rise : Rises key_cmp keys
  pub among : Each (λ k. is_among (map (λ e. e.0) entities) k ≡ true) keys

-- By each of some entities whose key isn't one of these, two timetables find the same.
abbrev pub FindAlikeBeside : List EntityKey → Option Tables → Option Tables → KeyedValues → Type 0
FindAlikeBeside keys t u entities = Each (λ e. is_among keys e.0 ≡ false → local_found t e.0 e.1 ≡ local_found u e.0 e.1) entities

-- Each list that is held has what its part finds with some timetable, and by the entities beside those that are touched another finds the same.
pub record CanExchange (u : Option Tables) (touched : List EntityKey) (state : State) : Type 0 where
  pub before : Option Tables
  pub is_state : IsState state
  pub cached : AreCached before state.index (feed_of state)
  pub named : AreKeysOf (entities_held state) touched
  pub others : FindAlikeBeside touched before u (entities_held state)
