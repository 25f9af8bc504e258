pub mod Stops
pub mod Matching
pub mod Events
pub mod Setters
pub mod Rows
pub mod Predictions
pub mod Laws
