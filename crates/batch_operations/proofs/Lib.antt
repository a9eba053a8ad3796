pub mod Layouts
pub mod OneOperation
pub mod OneShown
pub mod SomeShown
pub mod BatchesShown
pub mod RefusalsShown
