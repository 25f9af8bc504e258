-- What `touched_entities` says, for the crates above.
pub use Rattle.held_feeds.specs.touched_entities.Again
pub use Rattle.held_feeds.specs.touched_entities.FreshProofs
pub use Rattle.held_feeds.specs.touched_entities.OneMoreProofs
pub use Rattle.held_feeds.specs.touched_entities.Told
