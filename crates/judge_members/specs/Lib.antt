-- The members of a plan's section and its head.
pub mod Members
pub mod Laws
