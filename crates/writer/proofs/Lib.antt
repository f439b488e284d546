-- Laws of the table of closings, and of what the writer makes and answers.
pub mod ClosingLaws
pub mod WriterLaws
