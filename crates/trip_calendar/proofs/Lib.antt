pub mod OriginLemmas
pub mod ViewLemmas
pub mod DayLemmas
pub mod NearestLemmas
