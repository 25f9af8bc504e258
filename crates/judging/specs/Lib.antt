pub mod message_rules
pub mod schedule_rules
pub mod Ruled
pub mod Whole
pub mod Answering
pub mod Seats
pub mod Judged
