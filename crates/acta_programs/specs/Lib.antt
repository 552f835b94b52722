pub mod Answers
pub mod From
pub mod inside
