-- The words that more than one program prints.
pub mod Words
