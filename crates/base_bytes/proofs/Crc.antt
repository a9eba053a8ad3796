-- Why the checksum that is computed with tables is the remainder of long division.
pub mod Register
pub mod Division
pub mod Message
pub mod Table
pub mod Tables
pub mod Slices
