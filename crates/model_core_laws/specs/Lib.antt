pub mod Examples
pub mod Stalls
