-- The two lower bounds of the search.
pub mod Layout
pub mod DeskBound
pub mod ScannerBound
pub mod ScannerTable
