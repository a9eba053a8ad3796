pub mod Reading
pub mod Places
pub mod Resumed
pub mod Later
pub mod Skipping
pub mod Scanned
