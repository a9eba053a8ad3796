pub mod Steps
pub mod Left
pub mod Additions
