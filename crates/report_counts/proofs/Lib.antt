pub mod ShownLemmas
pub mod RuleLemmas
pub mod LineLemmas
pub mod SumLemmas
