-- What `message_rules` says, for the crates above.
pub use Rattle.entity_parts.specs.message_rules.Message
