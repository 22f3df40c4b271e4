-- The mosaic planner: the least figure, the batching taken, the theorems against the rules, and what the functions ask and do.
pub mod Least
pub mod Chosen
pub mod Plan
pub mod Tables
pub mod Laws
