-- Order numbers: which are proper (Order, Decided), the pass at each position (Passes), their beginnings, that the starts of its passes determine a proper
-- order (Rising), and how every proper order goes through its beginnings (Children).
pub mod Order
pub mod Beginning
pub mod Seconds
pub mod Ones
pub mod Decided
pub mod Word
pub mod Blocks
pub mod Passes
pub mod PassLaws
pub mod Rising
pub mod Children
pub mod Examples
