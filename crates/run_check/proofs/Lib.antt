pub mod Standings
pub mod OneFile
pub mod Together
