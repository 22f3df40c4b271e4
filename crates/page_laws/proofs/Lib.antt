pub mod Determined
pub mod Lines
pub mod Outcomes
pub mod Uncut
pub mod Room
