pub mod Statuses
pub mod StateTexts
pub mod Calls
