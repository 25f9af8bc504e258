pub mod RowsBeside
pub mod NoneWhereQuiet
