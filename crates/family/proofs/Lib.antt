pub mod Tables
pub mod ThinFacts
pub mod FitFacts
pub mod Unmoved
