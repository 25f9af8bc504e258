pub mod Records
pub mod Reading
pub mod Texts
pub mod Results
