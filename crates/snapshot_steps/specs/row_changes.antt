-- What `row_changes` says, for the crates above.
pub use Rattle.held_feeds.specs.row_changes.AlikeProofs
pub use Rattle.held_feeds.specs.row_changes.Given
pub use Rattle.held_feeds.specs.row_changes.Held
pub use Rattle.held_feeds.specs.row_changes.HeldRows
