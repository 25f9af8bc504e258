pub mod ByRule
pub mod AtSpot
pub mod FourParts
pub mod Sparse
pub mod Stays
pub mod Timestamps
pub mod Bounded
