-- How long the words are.
pub mod WordLaws
