pub mod Groups
pub mod Roles
pub mod Rooms
pub mod Seats
pub mod Second
pub mod Stalled
