-- What `touched_entities` says, for the crates above.
pub use Rattle.touched_entities.proofs.Fresh as FreshProofs
pub use Rattle.touched_entities.proofs.OneMore as OneMoreProofs
pub use Rattle.touched_entities.proofs.Rising as RisingProofs
pub use Rattle.touched_entities.specs.Again
pub use Rattle.touched_entities.specs.Exchanged
pub use Rattle.touched_entities.specs.Told
