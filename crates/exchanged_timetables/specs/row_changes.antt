-- What `row_changes` says, for the crates above.
pub use Rattle.taken_snapshots.specs.row_changes.Given
pub use Rattle.taken_snapshots.specs.row_changes.Held
pub use Rattle.taken_snapshots.specs.row_changes.HeldRows
