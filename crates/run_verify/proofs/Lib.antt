pub mod CutLemmas
pub mod SentLemmas
pub mod PutLemmas
