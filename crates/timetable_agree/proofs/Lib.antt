pub mod Pointwise
pub mod Walked
pub mod Remembered
pub mod Calls
pub mod Asked
pub mod Cells
pub mod Finding
pub mod Sets
