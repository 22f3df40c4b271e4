-- The rules as tests, and samples that they decide.
pub mod Tests
pub mod Computes
pub mod Samples
