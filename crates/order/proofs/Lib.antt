pub mod Beginnings
pub mod Rising
