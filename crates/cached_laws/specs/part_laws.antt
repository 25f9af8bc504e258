-- What `part_laws` says, for the crates above.
pub use Rattle.touched_entities.specs.part_laws.Bounded
pub use Rattle.touched_entities.specs.part_laws.FourParts
pub use Rattle.touched_entities.specs.part_laws.SparseProofs
pub use Rattle.touched_entities.specs.part_laws.StaysProofs
pub use Rattle.touched_entities.specs.part_laws.Touched
