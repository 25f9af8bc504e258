pub mod CutLemmas
pub mod FileLemmas
pub mod HeldLemmas
