pub mod OpenedLines
pub mod Sent
pub mod RowByRow
pub mod Counted
pub mod Paths
pub mod FileRows
pub mod Ended
