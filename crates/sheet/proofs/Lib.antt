-- Laws of the definitions in specs/, and those that the functions' proofs share.
pub mod PrefixLaws
mod FunctionLaws
pub mod SheetLaws
pub mod RulingLaws
pub mod FormLaws
