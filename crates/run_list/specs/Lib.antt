pub mod Listed
pub mod Stops
pub mod Taken
pub mod Laws
