-- What the functions' proofs cite: laws over plain values, whose premises are the facts at hand there.
mod BatchLaws
mod TimeLaws
mod PlanLaws
pub mod Attained
pub mod Earliest
pub mod Finish
pub mod LowerBound
pub mod Rules
pub mod Whole
pub mod Determined
pub mod Theorems
