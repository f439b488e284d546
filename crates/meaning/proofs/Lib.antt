-- The laws of the meaning: exactly one set of values meets the equations, and any right order and the slots lead to it.
pub mod LocalLaws
pub mod MeaningLaws
pub mod CellLaws
pub mod TypedLaws
pub mod VerdictLaws
