pub mod Within
pub mod WordSteps
pub mod PageSteps
pub mod PartSteps
pub mod MapSteps
pub mod ShelfSteps
pub mod Families
