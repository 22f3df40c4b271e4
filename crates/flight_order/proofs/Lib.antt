-- Laws that the proofs of the functions cite.
pub mod Passes
pub mod Writing
pub mod Ceiling
pub mod Determined
pub mod Good
pub mod Lawful
pub mod Planned
pub mod Schedule
pub mod Timetable
