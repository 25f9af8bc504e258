pub mod Faults
pub mod Form
pub mod Holds
pub mod Pieces
pub mod Reads
pub mod Later
pub mod Unform
pub mod Walk
