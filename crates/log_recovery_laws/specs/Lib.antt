pub mod Reads
pub mod Images
