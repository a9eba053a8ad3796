pub mod Options
pub mod Commands
pub mod Definition
pub mod Meaning
pub mod Lawful
pub mod Limits
