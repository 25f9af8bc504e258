-- What `standing_walks` says, for the crates above.
pub use Rattle.taken_snapshots.specs.standing_walks.Changes
