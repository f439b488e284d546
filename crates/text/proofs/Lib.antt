-- The laws of appending, by itself and in a lent buffer, and of numbers in decimal, and numbers in decimal computed.
pub mod TextLaws
pub mod LentLaws
mod Examples
