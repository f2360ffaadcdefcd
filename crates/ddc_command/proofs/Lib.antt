pub mod Noting
pub mod Statuses
pub mod Unopened
pub mod Settling
pub mod Finding
pub mod Replaying
pub mod Spaces
pub mod Making
