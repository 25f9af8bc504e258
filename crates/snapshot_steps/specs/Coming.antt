-- A snapshot that comes, compared with the one before it and decoded where it is new.
use Rattle.std.specs.Prelude.{◌≡◌, List, option_map}
use Rattle.feed_values.specs.Snapshot.{header_of}
use Rattle.feed_values.specs.Views.{feed_header_value}
use Rattle.rule_history.specs.History.{Snapshot}
use Rattle.held_feeds.specs.entity_index.Changes.{AreIncoming, IsChanges}
use Rattle.held_feeds.specs.entity_index.Held.{HeldEntities, held_at}
use Rattle.snapshot_steps.specs.declared.coming.Coming.{Coming}

pub record IsComing (s : Snapshot) (index : List HeldEntities) (c : Coming) : Type 0 where
  pub header_is : feed_header_value c.header ≡ header_of s.bytes
  pub before_is : option_map feed_header_value c.before ≡ option_map header_of (held_at index s.feed).bytes
  pub changes_are : IsChanges s.feed (held_at index s.feed).bytes s.bytes c.changes
  pub entities_are : AreIncoming s.feed (held_at index s.feed).bytes s.bytes c.entities
