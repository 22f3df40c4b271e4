-- The format of a plan's fields: Format, the definitions; the others hold the laws that what is written is read back, and what is read is what stands there.
pub mod Format
pub mod ByteLaws
