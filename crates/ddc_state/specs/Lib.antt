pub mod Views
pub mod Nested
pub mod MapLends
pub mod IndexLends
pub mod NextKeys
pub mod inside
