pub mod Lowest
pub mod Table
