pub mod Core
pub mod CoreLaw
pub mod Halves
pub mod ReplayText
pub mod Replies
pub mod Schedule
pub mod Step
