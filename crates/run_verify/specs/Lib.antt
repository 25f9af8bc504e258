pub mod Verified
pub mod Lines
pub mod Judged
