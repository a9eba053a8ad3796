pub mod Additions
pub mod Places
