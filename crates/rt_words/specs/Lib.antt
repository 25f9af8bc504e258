pub use Rattle.rt_day.specs.Digits
pub mod Numbers
pub mod Paths
