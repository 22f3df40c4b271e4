-- Decimal columns: a number right-aligned in so many columns of decimal digits.
-- Columns defines them and computes samples; the others are laws.
pub mod Columns
pub mod Digits
pub mod Storing
