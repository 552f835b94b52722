pub mod Conflicts
pub mod KeptValues
pub mod Live
pub mod LiveSets
pub mod LiveValues
pub mod Stores
pub mod Trails
