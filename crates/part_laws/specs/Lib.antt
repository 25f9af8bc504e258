pub mod standing_walks
pub mod FourParts
pub mod Touched
pub mod Parts
pub mod Stays
pub mod Bounded
