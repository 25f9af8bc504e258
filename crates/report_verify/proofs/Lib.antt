pub mod ReadingLemmas
pub mod SaidLemmas
pub mod WithinLemmas
pub mod TreeLemmas
pub mod VerdictLemmas
