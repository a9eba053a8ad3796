pub mod Seen
pub mod Sizes
pub mod Ends
pub mod Accounts
