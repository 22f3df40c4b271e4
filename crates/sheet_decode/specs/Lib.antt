-- What decoding a field rests on; its definitions are those of crate sheet.
pub mod Pre
pub mod DecodeLaws
