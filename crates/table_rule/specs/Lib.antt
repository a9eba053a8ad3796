pub mod Bases
pub mod Histories
pub mod Batches
pub mod Rule
pub mod Steps
pub mod Seats
pub mod Events
pub mod CoreEvents
