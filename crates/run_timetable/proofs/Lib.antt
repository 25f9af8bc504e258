pub mod GivenTable
