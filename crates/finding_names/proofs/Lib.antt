pub mod NameLemmas
pub mod NumberLemmas
pub mod PathLemmas
pub mod AskLemmas
pub mod WithinLemmas
