pub mod ReplayLanguage
pub mod Languages
pub mod Schedules
pub mod ScriptLines
pub mod ScriptWords
pub mod Scripts
