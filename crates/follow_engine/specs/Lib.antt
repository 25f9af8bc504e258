pub mod entity_index
pub mod entity_parts
pub mod Deltas
pub mod Followed
pub mod Left
pub mod Entities
pub mod Engines
pub mod Retabled
