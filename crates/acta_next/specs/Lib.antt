pub mod Candidates
pub mod Next
