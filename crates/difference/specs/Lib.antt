-- Difference constraints: their rounds (Bellman-Ford), and that these reach the least solution or show that there is none.
pub mod System
pub mod Caps
pub mod Bounded
pub mod Gap
pub mod Round
pub mod Least
pub mod Span
pub mod Agree
pub mod Rows
