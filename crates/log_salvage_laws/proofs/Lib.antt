pub mod OneList
pub mod GivesItself
pub mod Worked
