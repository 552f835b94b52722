pub mod Meanings
pub mod Near
pub mod OfKind
