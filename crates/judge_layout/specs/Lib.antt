-- The layout of a plan.
pub mod Layout
pub mod Laws
