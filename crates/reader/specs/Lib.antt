-- How the sheet that a text tells is read.
pub mod Reading
