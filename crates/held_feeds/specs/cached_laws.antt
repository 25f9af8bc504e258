-- What `cached_laws` says, for the crates above.
pub use Rattle.cached_laws.proofs.Between as BetweenProofs
pub use Rattle.cached_laws.proofs.Bounds as BoundsProofs
pub use Rattle.cached_laws.proofs.Counts as CountsProofs
pub use Rattle.cached_laws.proofs.Entries as EntriesProofs
pub use Rattle.cached_laws.proofs.Gone as GoneProofs
pub use Rattle.cached_laws.proofs.Next as NextProofs
pub use Rattle.cached_laws.proofs.Parts as PartsProofs
pub use Rattle.cached_laws.proofs.Passable as PassableProofs
pub use Rattle.cached_laws.proofs.Placed as PlacedProofs
pub use Rattle.cached_laws.proofs.Proved as ProvedProofs
pub use Rattle.cached_laws.proofs.Renewed as RenewedProofs
pub use Rattle.cached_laws.proofs.Step as StepProofs
pub use Rattle.cached_laws.specs.Cached
pub use Rattle.cached_laws.specs.Judged
pub use Rattle.cached_laws.specs.Keys
pub use Rattle.cached_laws.specs.Laws
pub use Rattle.cached_laws.specs.State
pub use Rattle.cached_laws.specs.part_laws
