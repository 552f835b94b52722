-- Definitions used only by internal contracts.
pub mod Shown
