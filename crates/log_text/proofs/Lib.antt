pub mod TextLengths
pub mod Laid
