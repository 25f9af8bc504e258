pub mod Least
pub mod Unchanged
pub mod Ranges
