pub mod Spine
pub mod Fed
