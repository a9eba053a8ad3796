pub mod Families
pub mod ScheduleReading
pub mod ScriptNumbers
pub mod ScriptParts
pub mod ScriptReading
pub mod ScriptSizes
