pub mod Merged
pub mod Gathering
