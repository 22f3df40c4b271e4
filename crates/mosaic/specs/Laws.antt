-- Laws behind the theorems.
pub mod Attained
