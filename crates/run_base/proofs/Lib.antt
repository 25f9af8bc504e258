pub mod Named
pub mod Told
pub mod Carried
pub mod Chosen
pub mod Counted
pub mod Refusals
pub mod Pieces
