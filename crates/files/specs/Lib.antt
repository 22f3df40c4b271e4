-- What reading leaves in a buffer.
pub mod Input
