pub mod HeldPeaks
pub mod StampGroups
