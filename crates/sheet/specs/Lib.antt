-- Document 01's sheet bytes, and its rules 1 to 6.
pub mod Ceilings
pub mod Ruling
pub mod Prefix
pub mod Bytes
pub mod Form
