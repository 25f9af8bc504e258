pub mod Picked
pub mod Taken
pub mod Alike
pub mod Counted
