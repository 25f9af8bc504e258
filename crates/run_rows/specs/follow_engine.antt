-- What `follow_engine` says, for the crates above.
pub use Rattle.follow_engine.specs.Deltas
pub use Rattle.follow_engine.specs.Engines
pub use Rattle.follow_engine.specs.Entities
pub use Rattle.follow_engine.specs.Left
pub use Rattle.follow_engine.specs.declared.engine.Engine
pub use Rattle.follow_engine.specs.Retabled
