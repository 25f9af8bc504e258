pub mod FromText
pub mod Parts
