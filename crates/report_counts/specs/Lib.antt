pub mod Counts
pub mod Tallies
pub mod Shown
pub mod Gate
pub mod Laws
pub mod Stepping
