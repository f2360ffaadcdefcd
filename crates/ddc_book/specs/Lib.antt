pub mod View
pub mod Calls
pub mod Loading
pub mod Tied
pub mod inside
