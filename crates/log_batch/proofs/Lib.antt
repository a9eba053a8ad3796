pub mod Additions
pub mod Greatest
pub mod OneRecord
pub mod OneReading
pub mod OneAnswer
pub mod OwnRecords
