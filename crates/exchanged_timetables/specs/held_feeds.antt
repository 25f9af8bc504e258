-- What `held_feeds` says, for the crates above.
pub use Rattle.taken_snapshots.specs.held_feeds.Entities
pub use Rattle.taken_snapshots.specs.held_feeds.Left
pub use Rattle.taken_snapshots.specs.held_feeds.States
