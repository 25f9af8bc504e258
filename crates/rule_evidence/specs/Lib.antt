pub use Rattle.rule_table.specs.Broken
pub use Rattle.rule_table.specs.ClearSlots
pub use Rattle.rule_table.specs.Judged
pub use Rattle.rule_history.specs.Answered
pub use Rattle.rule_history.specs.Findings
pub use Rattle.rule_history.specs.History
pub mod Laws
