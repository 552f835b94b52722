pub mod Dialogues
pub mod Help
pub mod Remarks
pub mod Replies
pub mod Shells
pub mod inside
