pub use Rattle.csv_records.specs.Records
pub mod Lists
pub mod Rows
pub mod Values
pub mod Fields
pub mod Texts
pub mod Laws
