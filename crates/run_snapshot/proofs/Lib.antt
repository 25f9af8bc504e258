pub mod Sent
pub mod Marks
pub mod Reports
