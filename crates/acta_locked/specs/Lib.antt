pub mod Books
pub mod Desks
pub mod Drives
pub mod Fronts
pub mod Gates
pub mod inside
