pub mod Predicted
pub mod Zones
