pub mod Statuses
pub mod Debts
pub mod Dependencies
pub mod Deps
pub mod Blocks
pub mod Waiting
pub mod inside
