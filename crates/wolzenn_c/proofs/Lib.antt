pub mod LogPlaces
pub mod LogsInTurn
pub mod OneOperation
pub mod OperationPlaces
pub mod Passing
pub mod Places
pub mod Values
