-- What the checks of a field rest on; their definitions are those of crate sheet.
pub mod FieldPre
pub mod NumberLaws
