-- What `snapshot_steps` says, for the crates above.
pub use Rattle.snapshot_steps.specs.Taken
