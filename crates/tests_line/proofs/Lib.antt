pub mod Replies
pub mod Seating
