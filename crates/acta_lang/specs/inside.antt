-- Definitions used only by internal contracts and proofs. The public contracts can be read without them.
pub mod Named
pub mod Noted
pub mod Read
pub mod Abstraction
pub mod Written
