-- Document 01, "Meaning".
pub mod Equations
pub mod Local
pub mod Verdicts
pub mod Cells
pub mod Admitted
