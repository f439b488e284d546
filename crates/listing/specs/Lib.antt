-- What a listing is, what sheet a text tells, and what the writer and the reader answer.
pub mod Listing
pub mod Telling
pub mod Answers
