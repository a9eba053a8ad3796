pub mod Faults
pub mod InOrder
pub mod Readings
pub mod ScanAnswers
pub mod ScanRuns
pub mod Scans
