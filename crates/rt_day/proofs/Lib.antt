pub mod DateLemmas
pub mod DigitLemmas
pub mod SpellingLemmas
pub mod DateSpellingLemmas
