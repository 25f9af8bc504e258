-- What `part_laws` says, for the crates above.
pub use Rattle.part_laws.proofs.AtSpot as AtSpotProofs
pub use Rattle.part_laws.proofs.Bounded as BoundedProofs
pub use Rattle.part_laws.proofs.ByRule as ByRuleProofs
pub use Rattle.part_laws.proofs.FourParts as FourPartsProofs
pub use Rattle.part_laws.proofs.Sparse as SparseProofs
pub use Rattle.part_laws.proofs.Stays as StaysProofs
pub use Rattle.part_laws.specs.Bounded
pub use Rattle.part_laws.specs.FourParts
pub use Rattle.part_laws.specs.Touched
