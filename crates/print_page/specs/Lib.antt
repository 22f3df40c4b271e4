-- What the program writes for a sheet and a plan.
pub mod Reply
pub mod Laws
