pub mod Gathers
pub mod Writes
