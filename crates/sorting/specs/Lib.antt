-- The sorting planner: the least figure, the chosen jobs, and the theorems against the rules.
pub mod Plan
pub mod Clauses
pub mod Writing
pub mod Route
pub mod Chosen
pub mod Lawful
