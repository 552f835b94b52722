pub mod Cursors
mod Examples
pub mod Fronts
pub mod Replaying
pub mod Standing
pub mod Stopping
pub mod Taking
