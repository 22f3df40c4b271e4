-- What a user of the page needs. Lines: it is in lines of 32 columns; Uncut: no number is cut; Determined: it determines the plan; Outcomes: the ways out of a
-- call.
pub mod Lines
pub mod Uncut
pub mod Outcomes
