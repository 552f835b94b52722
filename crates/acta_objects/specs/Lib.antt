pub mod Conflicts
pub mod FormFaults
pub mod Limits
pub mod Objects
pub mod WellFormed
pub mod inside
