-- What `snapshot_steps` says, for the crates above.
pub use Rattle.taken_snapshots.specs.snapshot_steps.Taken
