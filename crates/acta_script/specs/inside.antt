-- Definitions used only by internal contracts and proofs.
pub mod Again
pub mod Ranges
