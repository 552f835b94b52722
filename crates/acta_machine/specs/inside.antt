-- Definitions used only by internal contracts and proofs. The public contracts can be read without them.
pub mod FreshEdges
pub mod Broken
pub mod Refused
pub mod Abstraction
pub mod Exempt
pub mod Remembered
