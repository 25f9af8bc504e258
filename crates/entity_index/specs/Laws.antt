-- Which entities of a snapshot are new or have other bytes.
use Rattle.std.specs.Prelude.{◌≡◌, ℕ, ◌<◌, List, [], length, get_or, Option, Some, option_map}
use Rattle.feed_values.specs.Snapshot.{entity_payloads}
use Rattle.rule_table.specs.declared.key.EntityKey.{EntityKey}
use Rattle.rule_history.specs.History.{Snapshot, entities_in, now, feed_limit}
use Rattle.rule_history.specs.Answered.{payload_under}
use Rattle.rule_history.specs.Changed.{tested}
use Rattle.entity_index.specs.Changes.{fresh_keys, fresh_places}

-- Where a feed's last snapshot after a history is held, there are as many fresh places of one more snapshot as entities that it lets be tested.
abbrev pub FreshAreTested : Type 0
FreshAreTested = (h : List Snapshot) (s : Snapshot) → s.feed < feed_limit → length (fresh_places s.feed (option_map (λ p. p.bytes) (now h s.feed)) s.bytes) ≡ tested h s

-- There are as many keys as places, and under each key is the byte string at the place beside it.
pub record AreThere (f : ℕ) (bytes : List ℕ) (places : List ℕ) (keys : List EntityKey) : Type 0 where
  pub as_many : length keys ≡ length places
  pub within : (j : ℕ) → j < length places → get_or places j 0 < length (entity_payloads bytes)
  pub each : (j : ℕ) (k : EntityKey) → j < length places → payload_under (get_or keys j k) (entities_in f bytes) ≡ Some (get_or (entity_payloads bytes) (get_or places j 0) [])

-- So it is with the fresh places of a snapshot and their keys.
abbrev pub FreshAreThere : Type 0
FreshAreThere = (f : ℕ) (old : Option (List ℕ)) (new : List ℕ) → AreThere f new (fresh_places f old new) (fresh_keys f old new)
