pub mod TrimLemmas
pub mod PlaceLemmas
pub mod ColumnLemmas
