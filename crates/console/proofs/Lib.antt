-- Laws of what the programs print.
pub mod LineLaws
mod AcceptedLaws
pub mod TickLaws
pub mod InputLaws
