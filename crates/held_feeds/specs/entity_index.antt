-- What `entity_index` says, for the crates above.
pub use Rattle.cached_laws.specs.entity_index.AtKeyProofs
pub use Rattle.cached_laws.specs.entity_index.Changes
pub use Rattle.cached_laws.specs.entity_index.FindingProofs
pub use Rattle.cached_laws.specs.entity_index.Handed
pub use Rattle.cached_laws.specs.entity_index.Held
pub use Rattle.cached_laws.specs.entity_index.Incoming
pub use Rattle.cached_laws.specs.entity_index.Lists
