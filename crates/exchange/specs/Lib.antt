-- What sheetlist and sheetread print.
pub mod Exchange
