-- Document 01, "Orders of work".
pub mod Needs
pub mod Orders
