pub use Rattle.schedule_tables.proofs.SequenceLemmas
pub mod TwiceLemmas
pub mod ReturnLemmas
pub mod TimetableLemmas
