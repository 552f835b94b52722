pub mod Histories
pub mod Sessions
pub mod Breaks
pub mod Cursors
pub mod Moves
pub mod Stops
pub mod inside
