pub mod Tables
pub mod Steps
pub mod Starts
pub mod Sweeps
