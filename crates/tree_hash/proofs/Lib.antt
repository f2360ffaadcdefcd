pub mod Cuts
pub mod Facts
pub mod Worked
mod Bytes
