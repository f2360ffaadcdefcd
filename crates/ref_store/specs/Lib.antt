pub mod Slots
pub mod Pages
pub mod Nexts
pub mod inside
