-- The answer of a reading; the definitions of what is read are those of crate sheet.
pub mod Answer
