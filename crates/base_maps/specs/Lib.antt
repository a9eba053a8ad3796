pub mod Words
pub mod Pages
pub mod Cuts
pub mod Parts
pub mod Families
