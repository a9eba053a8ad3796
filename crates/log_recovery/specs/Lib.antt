pub mod Following
pub mod Keeping
pub mod Modes
pub mod Reading
pub mod Recovering
pub mod RecoveringLogs
pub mod RecoveringMore
pub mod Updating
