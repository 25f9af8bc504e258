-- What `standing_walks` says, for the crates above.
pub use Rattle.touched_entities.specs.standing_walks.Changes
pub use Rattle.touched_entities.specs.standing_walks.Merged
pub use Rattle.touched_entities.specs.standing_walks.Walked
