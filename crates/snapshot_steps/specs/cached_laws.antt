-- What `cached_laws` says, for the crates above.
pub use Rattle.held_feeds.specs.cached_laws.BetweenProofs
pub use Rattle.held_feeds.specs.cached_laws.Cached
pub use Rattle.held_feeds.specs.cached_laws.CountsProofs
pub use Rattle.held_feeds.specs.cached_laws.EntriesProofs
pub use Rattle.held_feeds.specs.cached_laws.GoneProofs
pub use Rattle.held_feeds.specs.cached_laws.Judged
pub use Rattle.held_feeds.specs.cached_laws.Keys
pub use Rattle.held_feeds.specs.cached_laws.Laws
pub use Rattle.held_feeds.specs.cached_laws.NextProofs
pub use Rattle.held_feeds.specs.cached_laws.PartsProofs
pub use Rattle.held_feeds.specs.cached_laws.PassableProofs
pub use Rattle.held_feeds.specs.cached_laws.PlacedProofs
pub use Rattle.held_feeds.specs.cached_laws.ProvedProofs
pub use Rattle.held_feeds.specs.cached_laws.RenewedProofs
pub use Rattle.held_feeds.specs.cached_laws.State
pub use Rattle.held_feeds.specs.cached_laws.StepProofs
pub use Rattle.held_feeds.specs.cached_laws.part_laws
