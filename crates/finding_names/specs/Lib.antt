pub mod Names
pub mod Paths
pub mod Numbers
pub mod AskNames
pub mod Asks
pub mod Laws
