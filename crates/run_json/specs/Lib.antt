pub mod Reports
pub mod Shown
pub mod JsonInputs
