pub mod Meeting
pub mod Reading
pub mod Unsound
