pub mod Search
pub mod Changes
pub mod Seen
pub mod Paths
