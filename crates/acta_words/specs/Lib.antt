pub mod Numerals
pub mod Spans
pub mod Text
pub mod inside
