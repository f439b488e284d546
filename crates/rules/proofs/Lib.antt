-- Laws of the definitions in specs/, and those that the functions' proofs share.
pub mod GuardLaws
pub mod RankLaws
pub mod TypeLaws
pub mod CheckLaws
pub mod FunctionLaws
