pub mod DeskBound
pub mod ScannerBound
pub mod ScannerTable
