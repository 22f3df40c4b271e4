-- The heads and members of a plan, read from its bytes.
pub mod PlanRead
pub mod Laws
