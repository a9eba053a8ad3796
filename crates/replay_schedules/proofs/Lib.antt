pub mod MapLemmas
pub mod RecordLemmas
mod SmallPlans
mod ReplayedClients
mod ReplayedHistory
mod Replayings
