pub mod Effects
pub mod Replies
pub mod Session
pub mod inside
