pub mod LineLaw
pub mod Lines
pub mod Printing
pub mod Reading
