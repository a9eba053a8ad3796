pub mod Prefixes
pub mod Fronts
