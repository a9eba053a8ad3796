pub mod Meaning
pub mod Rows
