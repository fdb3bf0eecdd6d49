pub mod Objects
pub mod Needs
pub mod Admission
pub mod Denials
