-- What a user of the rules needs. Theorems: Equivalent, the rules as they run over the members; RoundTrip and Sections, what a plan's bytes say;
-- Fits, that lawful timetables fit their bytes; OrderKept, that the passes of a flight determine the order that they keep; Determined, that the bytes
-- determine the plan; ScannerList, the comparison of scanner lists; Turns, Delays and Mounts, what the turn, the window and the mount of the rules say. The
-- others hold the laws that lead to them.
pub mod MosaicRunning
pub mod SortingRunning
pub mod ScannerList
pub mod Members
pub mod RoundTrip
pub mod Sections
pub mod Determined
pub mod Turns
pub mod Delays
pub mod Mounts
pub mod Unweighted
