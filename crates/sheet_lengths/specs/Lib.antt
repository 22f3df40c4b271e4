-- What the cases of the length due mean, and that they are those of the field table.
pub mod Lengths
