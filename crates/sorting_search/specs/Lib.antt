-- The search with its cuts: its definition, its table, the greedy start, what it finds.
pub mod CutSearch
pub mod Table
pub mod Greedy
pub mod Found
