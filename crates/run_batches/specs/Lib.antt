pub mod OneBatch
pub mod Layout
pub mod OneList
