-- What `entity_parts` says, for the crates above.
pub use Rattle.held_feeds.specs.entity_parts.Found
pub use Rattle.held_feeds.specs.entity_parts.Rising
pub use Rattle.held_feeds.specs.entity_parts.WholeProofs
