-- What `judging` says, for the crates above.
pub use Rattle.entity_parts.specs.judging.Ruled
pub use Rattle.entity_parts.specs.judging.Whole
