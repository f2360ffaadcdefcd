pub mod Walking
pub mod Unsound
