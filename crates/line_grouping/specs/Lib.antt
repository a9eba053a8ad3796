pub mod LongestGroup
