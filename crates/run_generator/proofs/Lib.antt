pub mod Drawn
pub mod Said
pub mod Sizes
pub mod Values
