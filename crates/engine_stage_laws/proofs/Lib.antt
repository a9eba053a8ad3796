pub mod AtOnce
pub mod Parts
pub mod Serving
