pub mod StopWays
pub mod NoneWhereKept
pub mod NoneWhereSound
pub mod NoneWhereGiven
pub mod NoneWithout
pub mod Cleared
