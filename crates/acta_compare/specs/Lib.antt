pub mod Answers
pub mod Differences
pub mod OnlyIn
pub mod Seen
pub mod Selected
pub mod inside
