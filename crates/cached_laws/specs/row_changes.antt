-- What `row_changes` says, for the crates above.
pub use Rattle.row_changes.proofs.Alike as AlikeProofs
pub use Rattle.row_changes.proofs.Lists as ListsProofs
pub use Rattle.row_changes.proofs.Members as MembersProofs
pub use Rattle.row_changes.proofs.Over as OverProofs
pub use Rattle.row_changes.proofs.Paired as PairedProofs
pub use Rattle.row_changes.proofs.Replaced as ReplacedProofs
pub use Rattle.row_changes.specs.Given
pub use Rattle.row_changes.specs.Held
pub use Rattle.row_changes.specs.Touched
pub use Rattle.row_changes.specs.Updated
pub use Rattle.row_changes.specs.declared.held.HeldRows
pub use Rattle.row_changes.specs.declared.ids.ChangedIds
