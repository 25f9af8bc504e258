pub mod States
pub mod RowByRow
pub mod Numbers
