-- What `standing_walks` says, for the crates above.
pub use Rattle.standing_walks.proofs.Walked as WalkedProofs
pub use Rattle.standing_walks.specs.Changes
pub use Rattle.standing_walks.specs.Merged
pub use Rattle.standing_walks.specs.Walked
pub use Rattle.standing_walks.specs.declared.changes.Closed
pub use Rattle.standing_walks.specs.declared.changes.Opened
