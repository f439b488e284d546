-- Laws of a sheet's needs and orders, and those that the functions' proofs share.
pub mod NeedsLaws
pub mod GroundLaws
pub mod OrderLaws
pub mod FunctionLaws
