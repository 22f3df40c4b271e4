-- The flight planner: the order that it takes, and the theorems on its plan.
pub mod Choice
pub mod OneByOne
pub mod Clauses
pub mod Chosen
pub mod Theorems
pub mod Determined
pub mod OtherPlace
