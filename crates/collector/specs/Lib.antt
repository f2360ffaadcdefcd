pub mod Marks
pub mod Roots
pub mod Cover
pub mod Turns
pub mod Sweeping
pub mod inside
