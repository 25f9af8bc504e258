-- What `cached_laws` says, for the crates above.
pub use Rattle.taken_snapshots.specs.cached_laws.Cached
pub use Rattle.taken_snapshots.specs.cached_laws.CountsProofs
pub use Rattle.taken_snapshots.specs.cached_laws.Keys
pub use Rattle.taken_snapshots.specs.cached_laws.State
