pub mod Changes
pub mod Walked
pub mod Merged
