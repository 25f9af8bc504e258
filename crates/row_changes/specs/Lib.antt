pub mod Touched
pub mod Updated
pub mod Held
pub mod Given
pub mod Times
pub mod Ids
