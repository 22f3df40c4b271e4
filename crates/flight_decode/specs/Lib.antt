-- What decoding a field of a flight rests on; its definitions are those of crate sheet.
pub mod Pre
pub mod FlightLaws
