-- What `entity_index` says, for the crates above.
pub use Rattle.held_feeds.specs.entity_index.AtKeyProofs
pub use Rattle.held_feeds.specs.entity_index.Changes
pub use Rattle.held_feeds.specs.entity_index.FindingProofs
pub use Rattle.held_feeds.specs.entity_index.Handed
pub use Rattle.held_feeds.specs.entity_index.Held
pub use Rattle.held_feeds.specs.entity_index.Lists
