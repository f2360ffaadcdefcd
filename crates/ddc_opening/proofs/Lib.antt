pub mod Both
pub mod Once
pub mod Replaying
pub mod Creating
pub mod Loading
