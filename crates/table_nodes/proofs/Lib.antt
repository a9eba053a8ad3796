pub mod Chains
pub mod Numbering
pub mod Members
pub mod Seen
pub mod Forests
pub mod Writing
