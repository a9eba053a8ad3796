pub mod Answers
pub mod Transcripts
pub mod Parts
pub mod Jobs
pub mod Histories
pub mod Runs
