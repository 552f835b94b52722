pub mod Input
pub mod Models
pub mod Outcome
pub mod Refusals
pub mod Reports
pub mod Sections
pub mod inside
