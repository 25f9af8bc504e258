pub mod DoesBreak
