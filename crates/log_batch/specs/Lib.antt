pub mod Body
pub mod Contents
pub mod Measures
pub mod OneBatch
pub mod OneBody
pub mod View
