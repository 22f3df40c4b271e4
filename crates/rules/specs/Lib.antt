-- The rules: when is a timetable lawful, what is its figure, when is a plan allowed. ScannerList: which of several best sortings is taken.
pub mod Mosaic
pub mod Sorting
pub mod ScannerList
pub mod Flight
pub mod Plan
