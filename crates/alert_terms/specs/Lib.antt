pub mod InForce
pub mod Laws
