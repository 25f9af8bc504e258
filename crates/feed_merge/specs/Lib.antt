pub mod Union
pub mod Spelled
pub mod Laws
