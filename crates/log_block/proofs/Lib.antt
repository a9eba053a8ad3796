pub mod Formats
pub mod Fields
pub mod Types
pub mod Cases
pub mod Counting
pub mod Cuts
pub mod Laid
pub mod Texts
