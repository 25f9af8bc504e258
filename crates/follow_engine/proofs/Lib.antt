pub mod Owed
pub mod Lasts
pub mod Held
pub mod Handed
