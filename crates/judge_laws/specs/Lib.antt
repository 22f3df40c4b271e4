-- What a user of the judge needs: the theorems (Theorems), and the laws that lead to them.
pub mod Due
pub mod Outcomes
pub mod Fault
pub mod Theorems
pub mod HeadLength
