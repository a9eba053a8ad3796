pub mod Texts
pub mod Definition
pub mod Asked
