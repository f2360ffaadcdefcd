pub mod Honest
