pub mod Keys
pub mod Headed
pub mod Replaced
pub mod Raised
