pub mod NameLemmas
pub mod StretchLemmas
pub mod LineLemmas
pub mod MarkLaws
