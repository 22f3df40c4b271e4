-- The lines of a page: what they are (Line), that each has 32 columns (Columns), and the laws by which they are stored (LineLaws).
pub mod Line
pub mod Columns
pub mod LineLaws
