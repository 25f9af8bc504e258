-- What `touched_entities` says, for the crates above.
pub use Rattle.cached_laws.specs.touched_entities.Again
pub use Rattle.cached_laws.specs.touched_entities.Exchanged
pub use Rattle.cached_laws.specs.touched_entities.FreshProofs
pub use Rattle.cached_laws.specs.touched_entities.OneMoreProofs
pub use Rattle.cached_laws.specs.touched_entities.RisingProofs
pub use Rattle.cached_laws.specs.touched_entities.Told
