pub mod Answered
pub mod Places
pub mod Pages
pub mod Cuts
pub mod Nexts
