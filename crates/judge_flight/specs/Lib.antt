-- The passes of a plan's flight, read from its bytes.
pub mod Starts
pub mod Laws
