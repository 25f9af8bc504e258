-- What `judging` says, for the crates above.
pub use Rattle.cached_laws.specs.judging.Whole
