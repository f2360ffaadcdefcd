pub mod Logs
pub mod Several
pub mod LogPages
pub mod Readers
pub mod Examples
