-- What `judging` says, for the crates above.
pub use Rattle.touched_entities.specs.judging.Whole
