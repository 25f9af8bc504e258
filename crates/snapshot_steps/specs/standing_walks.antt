-- What `standing_walks` says, for the crates above.
pub use Rattle.held_feeds.specs.standing_walks.Changes
pub use Rattle.held_feeds.specs.standing_walks.Merged
pub use Rattle.held_feeds.specs.standing_walks.Walked
