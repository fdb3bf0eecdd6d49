pub mod Bytes
pub mod Checks
pub mod Layout
pub mod Dropping
pub mod Laws
pub mod Refusals
