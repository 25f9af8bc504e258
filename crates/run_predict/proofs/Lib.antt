pub mod Zoning
pub mod Predicting
pub mod Texts
pub mod Placed
pub mod Tabled
