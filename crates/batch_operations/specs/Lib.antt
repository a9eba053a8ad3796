pub mod Operations
pub mod View
pub mod Shown
pub mod Batches
pub mod Rows
