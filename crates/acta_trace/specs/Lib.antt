pub mod Lines
pub mod States
pub mod Steps
pub mod Traces
pub mod inside
