pub mod SyncedGroups
pub mod TwoGroups
pub mod GroupByGroup
pub mod PairOfCommits
pub mod Acknowledged
pub mod OneLog
pub mod TwoLogs
