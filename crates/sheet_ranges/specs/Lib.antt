-- What the tests of ranges rest on; their definitions are those of crate sheet.
pub mod RangePre
pub mod RangeLaws
