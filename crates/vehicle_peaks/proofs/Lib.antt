pub mod Peaks
pub mod Raising
pub mod KeySets
pub mod Entities
pub mod Beside
