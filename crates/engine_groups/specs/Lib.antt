pub mod Meaning
pub mod Law
pub mod Clients
pub mod Serving
pub mod Stalling
pub mod Leaving
pub mod AtStart
pub mod Turns
