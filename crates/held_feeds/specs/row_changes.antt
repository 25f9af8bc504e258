-- What `row_changes` says, for the crates above.
pub use Rattle.cached_laws.specs.row_changes.AlikeProofs
pub use Rattle.cached_laws.specs.row_changes.ChangedIds
pub use Rattle.cached_laws.specs.row_changes.Given
pub use Rattle.cached_laws.specs.row_changes.Held
pub use Rattle.cached_laws.specs.row_changes.HeldRows
pub use Rattle.cached_laws.specs.row_changes.ListsProofs
pub use Rattle.cached_laws.specs.row_changes.MembersProofs
pub use Rattle.cached_laws.specs.row_changes.OverProofs
pub use Rattle.cached_laws.specs.row_changes.PairedProofs
pub use Rattle.cached_laws.specs.row_changes.ReplacedProofs
pub use Rattle.cached_laws.specs.row_changes.Touched
pub use Rattle.cached_laws.specs.row_changes.Updated
