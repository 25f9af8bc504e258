-- What `message_rules` says, for the crates above.
pub use Rattle.message_rules.specs.Message
