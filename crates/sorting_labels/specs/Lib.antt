-- The dominance memory of the search: its labels, and that what a label dominates is bounded.
pub mod Labels
pub mod Memory
