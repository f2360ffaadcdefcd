pub mod Fronts
pub mod Lends
pub mod inside
