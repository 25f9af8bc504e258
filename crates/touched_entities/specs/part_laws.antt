-- What `part_laws` says, for the crates above.
pub use Rattle.entity_parts.specs.part_laws.AtSpotProofs
pub use Rattle.entity_parts.specs.part_laws.Bounded
pub use Rattle.entity_parts.specs.part_laws.BoundedProofs
pub use Rattle.entity_parts.specs.part_laws.FourParts
pub use Rattle.entity_parts.specs.part_laws.FourPartsProofs
pub use Rattle.entity_parts.specs.part_laws.SparseProofs
pub use Rattle.entity_parts.specs.part_laws.StaysProofs
pub use Rattle.entity_parts.specs.part_laws.Touched
