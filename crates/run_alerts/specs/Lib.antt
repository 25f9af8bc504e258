pub mod Alerts
pub mod Lines
