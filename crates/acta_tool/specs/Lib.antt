pub mod CommandLines
pub mod Debugging
pub mod Driving
pub mod Models
pub mod Outcome
pub mod Output
pub mod inside
