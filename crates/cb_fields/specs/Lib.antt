pub mod Varuint
pub mod Shape
pub mod Language
pub mod Fault
pub mod Objects
pub mod Needs
pub mod Laws
pub mod inside
