-- Definitions used only by internal contracts and proofs. The public contracts can be read without them.
pub mod Circles
pub mod Debts
pub mod Keys
pub mod Merging
pub mod Noting
pub mod Numbered
pub mod Shown
pub mod Turns
