-- What `schedule_rules` says, for the crates above.
pub use Rattle.judging.specs.schedule_rules.Schedule
