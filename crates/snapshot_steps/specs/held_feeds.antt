-- What `held_feeds` says, for the crates above.
pub use Rattle.held_feeds.specs.Entities
pub use Rattle.held_feeds.specs.Left
pub use Rattle.held_feeds.specs.States
