pub mod Claimed
pub mod Ranges
pub mod Noted
pub mod Expired
