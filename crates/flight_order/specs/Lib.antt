-- A flight in one pass order: its constraints, its least starts, and what these are by the rules.
pub mod Constraints
pub mod Schedule
pub mod Good
pub mod Clauses
pub mod Timetable
pub mod Ceiling
