pub mod Runs
pub mod Edits
pub mod Spanned
pub mod Parts
pub mod Placed
pub mod Claimed
pub mod Told
