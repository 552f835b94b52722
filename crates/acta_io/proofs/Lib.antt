pub mod DebugScripts
pub mod ImageLines
pub mod Lines
pub mod Turns
