pub mod Report
pub mod Restriction
pub mod Words
