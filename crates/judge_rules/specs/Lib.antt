-- The rules as tests of one member after another.
pub mod Follows
pub mod Clauses
pub mod Laws
