pub mod Halves
mod LaneLemmas
mod Rows
mod Turned
pub mod Groups
pub mod Subtrees
pub mod Buffered
pub mod WordBytes
mod EightLemmas
