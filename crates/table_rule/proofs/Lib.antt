pub mod Puts
pub mod Histories
pub mod Moves
pub mod Parts
pub mod Fresh
pub mod Additions
pub mod Keys
pub mod Bases
pub mod Locks
pub mod Handing
pub mod Finishing
pub mod Launching
pub mod Beginnings
pub mod Answers
pub mod Seats
pub mod Images
mod Teams
mod CoreComes
mod CoreOthers
mod CoreLaws
