pub mod Delays
pub mod Looks
pub mod Noted
pub mod Numbers
pub mod Passes
pub mod Rule
