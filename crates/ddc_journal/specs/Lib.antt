pub mod Journal
pub mod Faults
pub mod Pairs
pub mod Laws
pub mod inside
