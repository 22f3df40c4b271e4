-- Laws that the proofs of the functions cite.
pub mod Copying
pub mod Planning
pub mod Delays
