-- What the flight planner gives to C.
pub mod Answered
