mod Examples
pub mod KeptEnds
pub mod Pieces
pub mod Sections
