pub mod Prefixes
pub mod Keeping
