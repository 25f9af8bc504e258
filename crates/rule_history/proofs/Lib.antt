pub mod Keyed
pub mod Greater
pub mod SameSnapshots
