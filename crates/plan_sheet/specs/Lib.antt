-- What the program writes for a sheet.
pub mod Reply
pub mod Laws
