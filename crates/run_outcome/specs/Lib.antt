pub mod HistoryEntries
pub mod Histories
pub mod Places
pub mod Views
pub mod Shows
pub mod Running
