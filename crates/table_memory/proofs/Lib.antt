pub mod ShardMaps
pub mod Splits
pub mod Ordered
pub mod Runs
pub mod Crossing
mod Planting
