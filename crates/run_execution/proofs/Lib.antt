mod LegalSteps
pub mod LegalRuns
mod LoggedGroups
mod GroupCalls
pub mod SafeLogs
mod Openings
mod Staying
mod Resumed
mod RunEnds
mod KeptBatches
pub mod Bare
mod Cuts
mod HeldGroups
mod SetShapes
mod SafeSets
mod SetRunEnds
