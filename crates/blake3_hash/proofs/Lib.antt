pub mod Joined
pub mod Leaves
pub mod Levels
pub mod Held
