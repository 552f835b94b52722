pub mod CommandReplies
pub mod Pictures
pub mod Sessions
