-- What the functions store in a lent buffer.
pub mod Text
