pub mod Replies
pub mod Entries
pub mod Ties
pub mod PlacesOfAll
pub mod PlaceSteps
pub mod Merging
