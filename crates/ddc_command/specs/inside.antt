pub mod Times
pub mod Noting
pub mod Parts
