pub mod Holding
pub mod Anchors
pub mod Evidence
pub mod Shown
