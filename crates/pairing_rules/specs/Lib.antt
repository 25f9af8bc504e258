pub mod Pairing
pub mod Agreeing
pub mod Numbers
pub mod Rows
pub mod Slots
pub mod Seats
pub mod Index
pub mod ByKind
