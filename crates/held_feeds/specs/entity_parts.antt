-- What `entity_parts` says, for the crates above.
pub use Rattle.cached_laws.specs.entity_parts.Found
pub use Rattle.cached_laws.specs.entity_parts.Rising
pub use Rattle.cached_laws.specs.entity_parts.WholeProofs
