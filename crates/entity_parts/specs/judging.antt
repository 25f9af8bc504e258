-- What `judging` says, for the crates above.
pub use Rattle.judging.proofs.ByRule as ByRuleProofs
pub use Rattle.judging.specs.Ruled
pub use Rattle.judging.specs.Whole
