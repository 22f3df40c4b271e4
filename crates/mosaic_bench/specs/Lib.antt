-- The section that the exported planner is given.
pub mod Section
