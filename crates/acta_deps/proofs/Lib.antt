pub mod FormedEdges
mod LastPlaces
mod Blocks
mod StatusTables
pub mod Upon
mod Walks
mod SmallestSame
mod Clashes
pub mod Clear
mod Parties
mod NewEdges
