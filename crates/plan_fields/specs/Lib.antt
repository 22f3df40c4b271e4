-- What the fields of a plan are stored as, and the laws of storing them.
pub mod Stored
pub mod FieldLaws
pub mod MemberLaws
