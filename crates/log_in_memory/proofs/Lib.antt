pub mod Finding
pub mod InOrder
pub mod Runs
pub mod Skipping
