pub mod Advancing
pub mod Clashing
pub mod Collecting
pub mod Counting
mod Examples
pub mod Forms
pub mod Generations
mod Histories
pub mod Meeting
pub mod Merging
pub mod Putting
pub mod Spotless
pub mod Stretches
