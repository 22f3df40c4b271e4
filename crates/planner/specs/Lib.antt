-- The planner whole: what a call answers and leaves (Call), the ways in which a call can go (Outcomes), what holds of the plan that it takes (Theorems),
-- when a call is turned back (TurnedBack), and that places have no part in a plan (OtherPlace).
pub mod Call
pub mod Outcomes
pub mod Theorems
pub mod TurnedBack
pub mod Computes
pub mod OtherPlace
