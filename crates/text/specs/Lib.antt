-- The definitions: numbers in decimal, and what an append is.
pub mod Text
