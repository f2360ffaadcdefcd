pub mod Numbers
pub mod Newest
pub mod Each
pub mod Readings
