pub mod Texts
pub mod Reached
pub mod Errors
pub mod Staying
pub mod Nearest
