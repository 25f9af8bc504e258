pub mod Schedule
pub mod Absent
