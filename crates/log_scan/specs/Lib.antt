pub mod Fronts
pub mod Resuming
pub mod Scanning
pub mod Scanner
