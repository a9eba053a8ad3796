pub mod Keeping
pub mod Counting
pub mod NewLogs
pub mod Steps
pub mod Salvaging
