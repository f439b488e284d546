-- What Start, Tick and Run answer, and what they leave in the lent slices.
pub mod Rows
pub mod Cells
pub mod Operations
