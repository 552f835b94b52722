pub mod Formats
pub mod FieldCodes
pub mod RowFormats
pub mod Images
pub mod Loops
mod Examples
