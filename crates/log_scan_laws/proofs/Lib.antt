pub mod SomeScan
pub mod OneScan
pub mod GoingOn
pub mod Growing
pub mod ChangedByte
pub mod Leading
pub mod WholeFound
