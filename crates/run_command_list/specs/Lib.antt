pub mod Kinds
pub mod Layout
pub mod Contents
pub mod Reading
pub mod ReadBack
pub mod OneList
pub mod Views
