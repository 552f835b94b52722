pub mod BookLines
pub mod DebugOutputs
pub mod EntryLines
pub mod Named
pub mod Outputs
pub mod SeatsInTurn
pub mod Serials
pub mod Tasks
mod TraceLines
pub mod TextsAndImages
