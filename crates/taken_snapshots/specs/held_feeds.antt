-- What `held_feeds` says, for the crates above.
pub use Rattle.snapshot_steps.specs.held_feeds.Entities
pub use Rattle.snapshot_steps.specs.held_feeds.Left
pub use Rattle.snapshot_steps.specs.held_feeds.States
