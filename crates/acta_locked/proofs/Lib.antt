pub mod Growing
pub mod Handing
pub mod Judging
pub mod Settling
pub mod Watching
pub mod Working
