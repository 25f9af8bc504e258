-- What `message_rules` says, for the crates above.
pub use Rattle.judging.specs.message_rules.Message
