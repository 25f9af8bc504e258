pub mod Emptied
pub mod FromText
pub mod ItemsRead
