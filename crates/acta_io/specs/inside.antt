-- Definitions used only by internal contracts and proofs. The public contracts can be read without them.
pub mod Reports
pub mod Sections
