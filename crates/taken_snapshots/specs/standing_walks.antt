-- What `standing_walks` says, for the crates above.
pub use Rattle.snapshot_steps.specs.standing_walks.Changes
pub use Rattle.snapshot_steps.specs.standing_walks.Merged
