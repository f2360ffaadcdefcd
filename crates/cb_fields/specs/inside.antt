pub mod Header
pub mod FieldWalk
