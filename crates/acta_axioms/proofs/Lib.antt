pub mod Histories
mod Examples
pub mod Growth
pub mod Holders
pub mod Conflicts
pub mod EdgeGrowth
pub mod Statuses
pub mod Numbers
pub mod ValueGrowth
pub mod ByOperations
pub mod Faultless
mod Named
mod Tables
mod TxnRecords
mod Bringing
mod Following
pub mod Searches
mod EdgesWanted
pub mod Permitting
mod Taken
mod Walking
mod Reordering
mod Replays
mod StrictItems
mod SerialGrowth
mod Grouping
mod GroupTies
