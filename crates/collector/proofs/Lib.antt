pub mod Lists
pub mod Greys
pub mod Views
pub mod Covering
pub mod Turning
pub mod Sweeps
pub mod Starting
