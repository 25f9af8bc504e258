pub mod Rules
pub mod Exact
pub mod SamePeaks
pub mod Stamps
pub mod StampGroups
pub mod HeldPeaks
