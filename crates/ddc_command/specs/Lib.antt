pub mod Words
pub mod Notes
pub mod Ends
pub mod inside
