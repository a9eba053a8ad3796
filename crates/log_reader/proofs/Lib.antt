pub mod FromDisk
pub mod NextSeen
pub mod InBlocks
pub mod Looking
pub mod OneMore
