-- What the judge answers, what examining a plan gives, and what a plan states.
pub mod Judged
pub mod Stated
pub mod Examined
pub mod Loops
