-- What the proof of `clear` cites: zeros written from the front.
mod Clearing
