pub mod Order
pub mod Broken
pub mod Verdicts
pub mod inside
