-- Batches of neighbouring strips at one bench: the least figure by recursion, the batching that has it, what the tables hold, and how large it gets.
pub mod Least
pub mod Chosen
pub mod Index
pub mod Caps
pub mod Input
pub mod Tables
pub mod Recursion
pub mod Bounds
pub mod Alike
pub mod Determined
