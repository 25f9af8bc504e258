-- What `entity_index` says, for the crates above.
pub use Rattle.entity_index.proofs.AtKey as AtKeyProofs
pub use Rattle.entity_index.proofs.Counted as CountedProofs
pub use Rattle.entity_index.proofs.Finding as FindingProofs
pub use Rattle.entity_index.proofs.Taking as TakingProofs
pub use Rattle.entity_index.specs.Changes
pub use Rattle.entity_index.specs.Handed
pub use Rattle.entity_index.specs.Held
pub use Rattle.entity_index.specs.Lists
pub use Rattle.entity_index.specs.declared.incoming.Incoming
