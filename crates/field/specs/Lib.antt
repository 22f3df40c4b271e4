-- Bytes: numbers, fields and what a store leaves.
pub mod Bytes
pub mod Field
pub mod Put
pub mod Members
pub mod Numbers
pub mod Fields
