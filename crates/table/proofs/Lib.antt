pub mod LowestFacts
pub mod Rounds
pub mod Reading
pub mod TableFacts
