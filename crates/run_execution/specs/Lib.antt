pub mod Ends
pub mod Bare
pub mod SetEnds
