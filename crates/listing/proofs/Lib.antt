-- The laws of listings: the words of a text, what they tell, that a listing and its sheet tell each other, how long a listing is, and what
-- the writer's and the reader's answers tell.
pub mod SplitLaws
pub mod ListsLaws
pub mod DigitLaws
pub mod TellingLaws
pub mod ToldBytes
pub mod Listings
pub mod LengthLaws
pub mod RoomLaws
pub mod AnswerLaws
