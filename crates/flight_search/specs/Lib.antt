-- The search over all proper orders of a flight.
pub mod Search
pub mod Orders
pub mod Searched
pub mod Clauses
