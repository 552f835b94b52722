pub mod ConditionWords
pub mod Conditions
pub mod EndLines
