pub mod Memory
pub mod Labels
pub mod LabelStored
