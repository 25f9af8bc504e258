pub mod History
pub mod Named
pub mod Held
pub mod Owed
pub mod Opening
