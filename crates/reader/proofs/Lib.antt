-- The laws of the reader: a text's first word, the type bytes and the records that words tell, how long a record is, and when they make a listing.
pub mod FirstLaws
pub mod LoopLaws
pub mod ToldLaws
mod ReaderLaws
