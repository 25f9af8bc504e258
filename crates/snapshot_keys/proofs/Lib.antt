pub mod Found
pub mod OneMore
pub mod Lookups
pub mod Walked
pub mod Sorting
pub mod ByIds
