pub mod Draws
pub mod Moving
pub mod Messages
pub mod Snapshots
pub mod Files
pub mod Laws
