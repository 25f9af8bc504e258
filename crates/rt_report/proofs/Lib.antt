pub mod Ranges
pub mod Floats
pub mod Given
pub mod Joined
pub mod Added
