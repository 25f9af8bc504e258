-- What `standing_walks` says, for the crates above.
pub use Rattle.part_laws.specs.standing_walks.Changes
pub use Rattle.part_laws.specs.standing_walks.Closed
pub use Rattle.part_laws.specs.standing_walks.Merged
pub use Rattle.part_laws.specs.standing_walks.Opened
pub use Rattle.part_laws.specs.standing_walks.Walked
pub use Rattle.part_laws.specs.standing_walks.WalkedProofs
