pub mod Diagnosing
pub mod EdgesAgain
mod Examples
pub mod FormsAgain
pub mod Held
pub mod NameLists
pub mod NoCodes
pub mod Noting
pub mod OtherWords
pub mod ReadAgain
pub mod Sound
pub mod Tidy
pub mod Turns
pub mod Whole
pub mod WordLists
pub mod Writing
