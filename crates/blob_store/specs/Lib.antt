pub mod Claims
pub mod Bytes
pub mod BytesLaws
pub mod inside
