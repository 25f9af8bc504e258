-- What `standing_walks` says, for the crates above.
pub use Rattle.entity_parts.specs.standing_walks.Changes
pub use Rattle.entity_parts.specs.standing_walks.Merged
pub use Rattle.entity_parts.specs.standing_walks.Walked
pub use Rattle.entity_parts.specs.standing_walks.WalkedProofs
