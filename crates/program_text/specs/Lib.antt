pub mod Refusals
pub mod Results
pub mod ShownText
