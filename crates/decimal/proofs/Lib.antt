pub mod Columns
pub mod Digits
pub mod Laws
pub mod Storing
pub mod ColumnsSame
