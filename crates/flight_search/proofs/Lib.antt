-- Laws that the proofs of the functions cite.
pub mod Trying
pub mod Searching
pub mod Rooms
