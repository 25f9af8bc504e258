pub mod judging
pub use Rattle.judging.specs.Judged
pub use Rattle.judging.specs.Seats
pub use Rattle.rule_table.specs.Pairs
pub mod Ids
pub mod Places
pub mod ById
pub mod Rowed
