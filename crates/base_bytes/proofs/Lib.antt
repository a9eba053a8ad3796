pub mod Crc
pub mod Spellings
pub mod Records
pub mod OneAnswer
pub mod LongVarints
