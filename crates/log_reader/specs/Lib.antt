pub mod Blocks
pub mod Damaged
pub mod Windows
pub mod Records
pub mod Steps
pub mod Reader
pub mod Opens
