pub mod Retested
