pub mod Predictions
pub mod Writing
