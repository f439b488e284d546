-- Document 01's rules 7 to 11, and Check.
pub mod Scope
pub mod Types
pub mod Slots
pub mod Check
