pub mod StopLemmas
pub mod ListLemmas
pub mod MatchLemmas
pub mod SetterLemmas
pub mod WalkLemmas
pub mod DayLemmas
pub mod LawLemmas
pub mod WayLemmas
