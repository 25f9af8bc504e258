-- What `cached_laws` says, for the crates above.
pub use Rattle.snapshot_steps.specs.cached_laws.BetweenProofs
pub use Rattle.snapshot_steps.specs.cached_laws.Cached
pub use Rattle.snapshot_steps.specs.cached_laws.CountsProofs
pub use Rattle.snapshot_steps.specs.cached_laws.EntriesProofs
pub use Rattle.snapshot_steps.specs.cached_laws.GoneProofs
pub use Rattle.snapshot_steps.specs.cached_laws.Keys
pub use Rattle.snapshot_steps.specs.cached_laws.NextProofs
pub use Rattle.snapshot_steps.specs.cached_laws.PartsProofs
pub use Rattle.snapshot_steps.specs.cached_laws.PassableProofs
pub use Rattle.snapshot_steps.specs.cached_laws.PlacedProofs
pub use Rattle.snapshot_steps.specs.cached_laws.RenewedProofs
pub use Rattle.snapshot_steps.specs.cached_laws.State
pub use Rattle.snapshot_steps.specs.cached_laws.StepProofs
pub use Rattle.snapshot_steps.specs.cached_laws.part_laws
