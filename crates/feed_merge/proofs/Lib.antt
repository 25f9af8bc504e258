pub mod Ids
pub mod Stamps
pub mod Kept
pub mod Parts
pub mod Formed
pub mod Decoding
