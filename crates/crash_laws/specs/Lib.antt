pub mod Restarts
pub mod Answered
pub mod Killed
