-- What a program writes for an answer.
pub mod Reply
