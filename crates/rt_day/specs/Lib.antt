pub mod Digits
pub mod Time
pub mod Date
pub mod Laws
