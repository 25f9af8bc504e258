pub mod Named
pub mod Alike
pub mod Agree
pub mod Compared
pub mod Laws
