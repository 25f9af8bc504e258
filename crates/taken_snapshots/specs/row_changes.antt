-- What `row_changes` says, for the crates above.
pub use Rattle.snapshot_steps.specs.row_changes.Given
pub use Rattle.snapshot_steps.specs.row_changes.Held
pub use Rattle.snapshot_steps.specs.row_changes.HeldRows
