-- What is printed of the writer's and the reader's answers, and that the two programs undo each other.
pub mod ExchangeLaws
