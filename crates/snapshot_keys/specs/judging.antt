-- What `judging` says, for the crates above.
pub use Rattle.judging.proofs.OneSnapshot as OneSnapshotProofs
pub use Rattle.judging.specs.Judged
pub use Rattle.judging.specs.Ruled
pub use Rattle.judging.specs.Seats
pub use Rattle.judging.specs.Whole
