-- What `schedule_rules` says, for the crates above.
pub use Rattle.schedule_rules.specs.Schedule
