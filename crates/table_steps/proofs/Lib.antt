pub mod Keyed
pub mod Openings
pub mod Accounts
