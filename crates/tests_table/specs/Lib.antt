pub mod Clients
pub mod Examples
