-- The search over interleavings: instance, states, search without cuts, completions.
pub mod Instance
pub mod Search
pub mod Caps
pub mod Consistent
pub mod Completion
