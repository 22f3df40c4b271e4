-- Laws that the proof of the reader's loop cites.
pub mod Loop
