pub mod Fragments
pub mod Headers
pub mod Pieces
pub mod Cutting
