pub mod Closing
pub mod Scanning
pub mod Reads
pub mod PairFiles
