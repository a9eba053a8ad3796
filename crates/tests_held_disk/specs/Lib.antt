pub mod HeldDisk
pub mod HeldDiskLaws
