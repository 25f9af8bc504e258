-- What `schedule_rules` says, for the crates above.
pub use Rattle.entity_parts.specs.schedule_rules.Schedule
