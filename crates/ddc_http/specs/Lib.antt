pub mod Heads
pub mod Flows
pub mod Reader
pub mod Stream
pub mod inside
