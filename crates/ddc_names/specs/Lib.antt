pub mod Texts
pub mod Names
pub mod Orders
pub mod Causes
