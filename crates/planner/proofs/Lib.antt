pub mod Theorems
pub mod TurnedBack
pub mod Laws
pub mod Outcomes
pub mod OtherPlace
