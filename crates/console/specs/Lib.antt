-- What the programs print, and how it comes about.
pub mod Sheetrun
pub mod Printing
