pub mod WideFed
pub mod inside
