pub mod Verdicts
pub mod Spelled
pub mod Said
pub mod Laws
