-- What `standing_walks` says, for the crates above.
pub use Rattle.cached_laws.specs.standing_walks.Changes
pub use Rattle.cached_laws.specs.standing_walks.Merged
pub use Rattle.cached_laws.specs.standing_walks.Walked
