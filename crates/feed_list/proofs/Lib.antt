pub mod Fields
pub mod ListRows
pub mod Lists
pub mod ReadFaults
