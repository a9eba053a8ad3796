pub mod Accepting
pub mod Summaries
pub mod WholeBatches
