-- The settled examples hold.
pub mod Proved
