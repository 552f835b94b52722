mod Counted
pub mod Noted
