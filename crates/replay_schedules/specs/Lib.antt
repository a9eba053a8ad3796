pub mod Maps
pub mod Replayed
pub mod Replaying
pub mod Records
