pub mod Readers
pub mod Fields
pub mod Entries
pub mod Many
