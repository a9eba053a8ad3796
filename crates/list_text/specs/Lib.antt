pub mod Words
pub mod Kinds
pub mod Lines
pub mod Keys
pub mod Rows
