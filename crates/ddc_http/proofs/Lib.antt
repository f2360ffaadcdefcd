pub mod Asked
pub mod Heads
pub mod Lists
pub mod Named
pub mod Taken
pub mod Targets
pub mod Pairs
pub mod Pieces
