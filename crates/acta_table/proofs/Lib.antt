pub mod AscendingSets
pub mod EdgeSets
pub mod Held
mod InOrder
pub mod KindSets
mod OpSearch
pub mod OpSets
pub mod FirstNumbers
pub mod Smallest
pub mod StartOrder
