pub mod Stays
pub mod Fronts
pub mod SoFar
