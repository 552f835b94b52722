-- Definitions used only by internal contracts and proofs. The public contracts can be read without them.
pub mod Holding
pub mod TxnRecords
pub mod Walking
pub mod Within
pub mod Wanted
