-- The claims about the operations: what their rules accept, the demands, and that each contract allows one result; and laws for the functions.
pub mod RuleLaws
pub mod Demands
pub mod OneResult
mod FillLaws
pub mod RunLaws
mod FunctionLaws
mod OperationLaws
