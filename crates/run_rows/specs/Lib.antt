pub mod follow_engine
pub mod Rows
pub mod Followed
pub mod Files
pub mod Counted
