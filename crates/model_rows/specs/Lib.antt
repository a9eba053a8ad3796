pub mod Examples
pub mod Runs
pub mod Ignored
pub mod TwoBatches
pub mod NumberedLogs
pub mod Stalls
pub mod OneFamily
pub mod LogReads
