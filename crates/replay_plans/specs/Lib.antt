pub mod Ahead
pub mod Answers
pub mod Plans
pub mod Small
