pub mod judging
pub mod message_rules
pub mod part_laws
pub mod schedule_rules
pub mod standing_walks
pub mod Found
pub mod Whole
pub mod Rising
