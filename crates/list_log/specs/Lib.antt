pub mod Wanted
pub mod Texts
pub mod Steps
pub mod Showing
pub mod Totals
pub mod Places
pub mod Rows
