pub mod Columns
pub mod LineLaws
