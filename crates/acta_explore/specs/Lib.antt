pub mod Programs
pub mod Points
pub mod Histories
pub mod Outcomes
pub mod Equivalence
pub mod Ends
pub mod Deadlocks
pub mod inside
